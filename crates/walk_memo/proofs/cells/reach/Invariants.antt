use Rattle.std.proofs.Common.{◌≡◌, ℕ, ◌+◌, ◌-◌, Some, slice_get, vec_len}
use Rattle.walk_memo.proofs.cells.reach.Given as goal

abbrev pub invariant-reached : goal.invariant-reached
invariant-reached g l = (i : ℕ) (v : g.row.T.Denot) → slice_get l.cells.items i ≡ Some (Some v) → slice_get l.initial.cells.items i ≡ Some (Some v)

abbrev pub decreases-reached : goal.decreases-reached
decreases-reached g l = l.place + 1 - vec_len l.cells
