use Rattle.sequence_grids.proofs.SetLemmas.{ArePredecessorsSoFar}
use Rattle.sequence_grids.proofs.table.predecessors_of.Given as goal

abbrev pub invariant-loop-q : goal.invariant-loop-q
invariant-loop-q g l = ArePredecessorsSoFar l.fst l.predecessors.items l.q
