-- Tables that are filled cell by cell.
use Rattle.std.specs.Prelude.{◌≡◌, ℕ, ◌+◌, ◌*◌, Some, slice_get}
use Rattle.walk_memo.specs.declared.cells.Cells.{Cells}

-- the value is kept in the cell
abbrev pub HasCell : {T : Type 0} → Cells T → ℕ → ℕ → T → Type 0
HasCell table row column value =
    slice_get table.cells.items (row * table.columns + column) ≡ Some (Some value)
