use Rattle.fst_compile.proofs.RowLemmas.{IsSetSoFar}
use Rattle.fst_compile.proofs.rows.set_of.Given as goal

abbrev pub invariant-loop-k : goal.invariant-loop-k
invariant-loop-k l = IsSetSoFar l.set l.states l.k-index
