use Rattle.std.proofs.Common.{◌≡◌, ◌+◌, ◌-◌, length, take, drop, map, vec_len, sym, ◌∙◌, inr, refl}
use Rattle.std.proofs.lemmas.List.{length-map, take_rest}
use Rattle.patex_parser.specs.Parsing.{use_view}
use Rattle.patex_parser.proofs.ScanLemmas.{scanned-free, scanned-token, scanned-bad}
use Rattle.patex_parser.proofs.scan.Scanned.step.Goals as goal

pub returns-then-is_free-clause-scanned : goal.returns-then-is_free-clause-scanned
returns-then-is_free-clause-scanned c =
    scanned-free c.args.text.now c.args.at _ _ c.requires.more (sym c.is_free.ensures ∙ c.if-is_free.true) c.requires.scanned

pub returns-in_default-clause-err : goal.returns-in_default-clause-err
returns-in_default-clause-err c =
    let text = c.args.text.now in
    let behind = take (length text - c.args.at) (drop c.args.at text) in
    inr (
      c.args.at + 1,
      scanned-bad text behind c.args.at _ _ c.requires.more (take_rest text c.args.at) (sym c.is_free.ensures ∙ c.if-is_free.false)
          (rw c.in_default.is at c.in_ok-lexeme.ensures.none) c.requires.scanned,
      refl,
    )

pub returns-clause-scanned : goal.returns-clause-scanned
returns-clause-scanned c =
    let text = c.args.text.now in
    let old = c.args.self.now in
    let uses = map use_view old.uses.items in
    let behind = take (length text - c.args.at) (drop c.args.at text) in
    let count : length uses ≡ vec_len old.uses = length-map old.uses.items use_view ∙ sym old.uses.ok.0 in
    let read = scanned-token text behind c.args.at c.in-Some.count c.in-Some.lexeme old.tokens.items uses c.requires.more (take_rest text c.args.at)
    (rw c.in-Some.is at c.in_ok-lexeme.ensures.some) c.requires.scanned in
    rw (c.in_ok-push.ensures.tokens, c.in_ok-push.ensures.uses) (rw count at read)
