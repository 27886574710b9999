use Rattle.fst_compile.proofs.RowLemmas.{IsSetSoFar}
use Rattle.sequence_grids.proofs.table.set_of.Given as goal

abbrev pub invariant-loop-k : goal.invariant-loop-k
invariant-loop-k g l = IsSetSoFar l.set l.states l.k-index
