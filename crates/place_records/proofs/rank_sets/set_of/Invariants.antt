use Rattle.fst_compile.proofs.RowLemmas.{IsSetSoFar}
use Rattle.place_records.proofs.rank_sets.set_of.Given as goal

abbrev pub invariant-loop-rank : goal.invariant-loop-rank
invariant-loop-rank l = IsSetSoFar l.set l.ranks l.rank-index
