-- The bound of a part.
use Rattle.std.proofs.Common.{◌↔◌, ℕ, zero, suc, ◌≤◌, Option, Some, None, IfSome, List, length, arith}
use Rattle.mine_model.specs.declared.item.Item.{Item}
use Rattle.mine_model.specs.Pivots.{IsWithin, IsWithinPivot}
use Rattle.mining_job.specs.Parts.{pivot_of}
use Rattle.snapshot_project.specs.Snapshots.{bound_of}

-- the bound of a pivot's part is that of the pivot
pub within-pivot : (order : List Item) (pivot : Option ℕ) → IfSome pivot (λ rank. 1 ≤ rank) → (items : List Item)
    → IsWithin order (bound_of (length order) pivot).top (bound_of (length order) pivot).need items ↔ IsWithinPivot order (pivot_of pivot) items
within-pivot order None least items = ((λ h. h), (λ h. h))
within-pivot order (Some zero) least items = absurd (omega (arith, least))
within-pivot order (Some (suc before)) least items = ((λ h. h), (λ h. h))
