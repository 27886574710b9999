-- How a line becomes rows, and why it is refused.
use Rattle.std.specs.Prelude.{◌≡◌, ℕ, ◌≤◌, List, [], ◌∷◌, ◌++◌, map, length}
use Rattle.mine_model.specs.declared.item.Item.{Item}
use Rattle.item_hierarchy.specs.declared.hierarchy_fault.HierarchyFault.{HierarchyFault}
use Rattle.item_hierarchy.specs.declared.hierarchy_fault.HierarchyFault.TheVariants.{ReadFault, TooLarge, BadByte, NameTooLong, TooManyItems, NoMemory}
use Rattle.mine_model.specs.Limits.{most_items}
use Rattle.mine_model.specs.Text.{fields_of, IsSoundLine}
use Rattle.mine_model.specs.Names.{GrowBy}
use Rattle.mine_model.specs.Refusal.{HasMoreNames, names_of, links_of_line, placed_links_of}
use Rattle.item_hierarchy.specs.declared.edges.EdgeRow.{EdgeRow}
use Rattle.item_hierarchy.specs.declared.reading.Reading.{Reading}
use Rattle.item_hierarchy.specs.Edges.{AreWithin, named_rows}

-- the first item of a line stands below each other one
abbrev pub rows_of_line : ℕ → List Item → List EdgeRow
rows_of_line line [] = []
rows_of_line line (child ∷ parents) = map
    (λ parent. record { child = child; parent = parent; line = line }) parents

-- the line became rows
pub record TookLine (before : Reading) (number : ℕ) (text : List ℕ) (after : Reading) : Type 0 where
  pub sound : IsSoundLine text
  pub grown : GrowBy before.names (fields_of text) after.names
  pub room : length after.names ≤ most_items
  pub own : List EdgeRow
  pub pushed : after.rows.items ≡ before.rows.items ++ own
  pub within : AreWithin (length after.names) own
  pub said : named_rows after.names own ≡ links_of_line number (fields_of text)

-- why a line was refused; want of memory may come at any time
abbrev pub IsLineFault : Reading → ℕ → List ℕ → HierarchyFault → Type 0
IsLineFault before number text ReadFault = ⊥
IsLineFault before number text TooLarge = ⊥
IsLineFault before number text (BadByte line column) = ⊥
IsLineFault before number text (NameTooLong line column) = ⊥
IsLineFault before number text (TooManyItems line) = (line ≡ number) × HasMoreNames most_items (before.names
    ++ fields_of text)
IsLineFault before number text NoMemory = Unit {0}

-- the line was refused, and the old names stay in front
pub record RefusedLine (before : Reading) (number : ℕ) (text : List ℕ) (fault : HierarchyFault)
    (after : Reading)
    : Type 0 where
  pub why : IsLineFault before number text fault
  pub added : List (List ℕ)
  pub kept : after.names ≡ before.names ++ added

-- the rows of these lines were read, where the names were known before
pub record IsTaken (known : List (List ℕ)) (lines : List (List ℕ)) (reading : Reading) : Type 0 where
  pub grown : GrowBy known (names_of lines) reading.names
  pub room : length reading.names ≤ most_items
  pub within : AreWithin (length reading.names) reading.rows.items
  pub said : named_rows reading.names reading.rows.items ≡ placed_links_of lines
