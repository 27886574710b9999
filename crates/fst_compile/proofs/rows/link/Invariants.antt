use Rattle.fst_compile.proofs.RowLemmas.{IsLinkedSoFar}
use Rattle.fst_compile.proofs.rows.link.Given as goal

abbrev pub invariant-loop-j : goal.invariant-loop-j
invariant-loop-j l = IsLinkedSoFar l.initial.rows l.rows l.last l.targets l.j-index
