use Rattle.std.proofs.Common.{lt-ltb, ◌+◌}
use Rattle.fst_compile.proofs.repeating.add_copy.Goals as goal

pub returns-then-index-least-clause-edges : goal.returns-then-index-least-clause-edges
returns-then-index-least-clause-edges c = rw (c.in-None.is, lt-ltb (c.args.index + 1) c.args.least c.if-index-least.true) c.and_then.ensures.edges

pub returns-after-both-clause-edges : goal.returns-after-both-clause-edges
returns-after-both-clause-edges c = rw c.in-Some.is c.in_ok-both-in-Some.ensures.edges
