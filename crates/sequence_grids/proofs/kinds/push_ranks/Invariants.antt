use Rattle.sequence_grids.proofs.KindLemmas.{ArePushedSoFar}
use Rattle.sequence_grids.proofs.kinds.push_ranks.Given as goal

abbrev pub invariant-loop-item : goal.invariant-loop-item
invariant-loop-item l = ArePushedSoFar l.ranks.order l.top l.items l.found.items l.item-index
