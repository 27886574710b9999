use Rattle.std.proofs.Common.{inl, inr}
use Rattle.patex_parser.proofs.RepeatLemmas.{judged-beyond, judged-bad, judged-sound}
use Rattle.patex_parser.proofs.bounds.judged.Goals as goal
use Rattle.patex_parser.proofs.bounds.judged.Goals.{then-least-gt-MOST_TIMES-via-then-least-gt-MOST_TIMES, then-least-gt-MOST_TIMES-via-else-least-gt-MOST_TIMES+then-upper-gt-MOST_TIMES}

pub returns-then-least-gt-MOST_TIMES : goal.returns-then-least-gt-MOST_TIMES
returns-then-least-gt-MOST_TIMES c between n m is p q =
    judged-beyond between n c.args.least c.unwrap_or-upper.result m c.args.most is p q c.unwrap_or-upper.ensures
    (elim c.then-least-gt-MOST_TIMES.branch [
      | then-least-gt-MOST_TIMES-via-then-least-gt-MOST_TIMES w ↦ inl w.if-least-gt-MOST_TIMES.true
      | then-least-gt-MOST_TIMES-via-else-least-gt-MOST_TIMES+then-upper-gt-MOST_TIMES w ↦ inr w.if-upper-gt-MOST_TIMES.true
    ])

pub returns-then-upper-least : goal.returns-then-upper-least
returns-then-upper-least c between n m is p q =
    judged-bad between n c.args.least c.unwrap_or-upper.result m c.args.most is p q c.unwrap_or-upper.ensures
    c.if-least-gt-MOST_TIMES.false c.if-upper-least.true

pub returns : goal.returns
returns c between n m is p q =
    judged-sound between n c.args.least c.unwrap_or-upper.result m c.args.most is p q c.unwrap_or-upper.ensures
    c.if-least-gt-MOST_TIMES.false c.if-upper-gt-MOST_TIMES.false c.if-upper-least.false
