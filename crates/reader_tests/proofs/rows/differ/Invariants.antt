use Rattle.std.proofs.Common.{ℕ, ◌<◌, ◌≢◌, get_or}
use Rattle.mine_model.specs.declared.row.Row.{Row}
use Rattle.reader_tests.proofs.rows.differ.Given as goal

abbrev pub invariant-loop-at : goal.invariant-loop-at
invariant-loop-at l = (i j : ℕ) (d : Row) → i < j → j < l.at → (get_or l.rows i d).pattern ≢ (get_or l.rows j d).pattern
