use Rattle.std.proofs.Common.{◌≡◌, ℕ, length, get_or}
use Rattle.fst_compile.proofs.compiling.empty_rows.Given as goal

abbrev pub invariant-loop-row : goal.invariant-loop-row
invariant-loop-row l = (length l.rows.items ≡ l._row) × ((from : ℕ) → get_or l.rows.items from 0 ≡ 0)
