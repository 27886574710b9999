use Rattle.frequent_rows.proofs.RowLemmas.{AreRowsBelow}
use Rattle.frequent_rows.proofs.rows_of.Given as goal

abbrev pub invariant-loop-number : goal.invariant-loop-number
invariant-loop-number l = AreRowsBelow l.counts l.job.ranking.order l.job.threshold l.number l.rows.items
