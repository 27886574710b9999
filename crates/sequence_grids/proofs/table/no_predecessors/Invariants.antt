use Rattle.std.proofs.Common.{◌≡◌, ℕ, length, get_or}
use Rattle.sequence_grids.proofs.table.no_predecessors.Given as goal

abbrev pub invariant-loop-state : goal.invariant-loop-state
invariant-loop-state g l = (length l.sets.items ≡ l._state) × ((k : ℕ) → get_or l.sets.items k 0 ≡ 0)
