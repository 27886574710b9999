use Rattle.fst_compile.specs.Transducers.{AreRowsOf}
use Rattle.fst_compile.proofs.rowing.edges_of_rows.Given as goal

abbrev pub invariant-loop-row : goal.invariant-loop-row
invariant-loop-row l = AreRowsOf l.labels l.rows l.edges.lists l.row-index
