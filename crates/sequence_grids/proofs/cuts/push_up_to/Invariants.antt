use Rattle.sequence_grids.proofs.CutLemmas.{AreCutSoFar}
use Rattle.sequence_grids.proofs.cuts.push_up_to.Given as goal

abbrev pub invariant-loop-rank : goal.invariant-loop-rank
invariant-loop-rank l = AreCutSoFar l.fn.ranks.items l.outputs l.top l.ranks.items l.rank-index
