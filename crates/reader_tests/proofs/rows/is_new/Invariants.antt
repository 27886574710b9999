use Rattle.std.proofs.Common.{ℕ, ◌<◌, ◌≢◌, get_or}
use Rattle.mine_model.specs.declared.row.Row.{Row}
use Rattle.reader_tests.proofs.rows.is_new.Given as goal

abbrev pub invariant-loop-k : goal.invariant-loop-k
invariant-loop-k l = (m : ℕ) (d : Row) → m < l.k → (get_or l.rows m d).pattern ≢ (get_or l.rows l.at d).pattern
