use Rattle.std.proofs.Common.{◌+◌, ◌++◌}
use Rattle.member_counts.proofs.CountLemmas.{AreCompared}
use Rattle.member_counts.proofs.reaching.reaching.Given as goal

abbrev pub invariant-loop-digit : goal.invariant-loop-digit
invariant-loop-digit g l = AreCompared (l.low ++ l.high) (3 + l.digit-index) l.members l.threshold l.rest l.carry l.reaching
