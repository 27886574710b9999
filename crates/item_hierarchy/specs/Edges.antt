-- Rows of a hierarchy file by the numbers of names, and why they make no hierarchy.
use Rattle.std.specs.Prelude.{◌≡◌, ◌↔◌, ℕ, ◌<◌, List, map, All}
use Rattle.mine_model.specs.declared.item.Item.{Item}
use Rattle.item_hierarchy.specs.declared.hierarchy_fault.CloseFault.{CloseFault}
use Rattle.item_hierarchy.specs.declared.hierarchy_fault.CloseFault.TheVariants.{Cycle, TooManyAncestors, NoMemory}
use Rattle.mine_model.specs.Limits.{most_ancestors}
use Rattle.mine_model.specs.Hierarchy.{Link, PlacedLink, IsAncestor, IsAcyclic, IsCycleLine, HasMoreAncestors}
use Rattle.mine_model.specs.Ancestry.{Ancestry}
use Rattle.mine_model.specs.Names.{name_of, link_by}
use Rattle.item_hierarchy.specs.declared.edges.EdgeRow.{EdgeRow}

abbrev pub link_of : EdgeRow → Link Item
link_of row = record { child = row.child; parent = row.parent }

-- the links of the rows
abbrev pub links_of : List EdgeRow → List (Link Item)
links_of rows = map link_of rows

-- the links of the rows, each with its line
abbrev pub placed_of : List EdgeRow → List (PlacedLink Item)
placed_of rows = map (λ row. record { link = link_of row; line = row.line }) rows

-- both items of each row are among so many
abbrev pub AreWithin : ℕ → List EdgeRow → Type 0
AreWithin items rows = All (λ row. (row.child.0 < items) × (row.parent.0 < items)) rows

-- rows of so many items, in any order
pub record OrderedRows : Type 0 where
  pub items : ℕ
  pub rows : List EdgeRow

-- why the rows of so many items make no hierarchy; want of memory may come at any time
abbrev pub IsCloseRefusal : ℕ → List EdgeRow → CloseFault → Type 0
IsCloseRefusal items rows (Cycle line) = IsCycleLine (placed_of rows) line
IsCloseRefusal items rows TooManyAncestors =
    IsAcyclic (links_of rows) × HasMoreAncestors most_ancestors (links_of rows) (λ t. t.0 < items)
IsCloseRefusal items rows NoMemory = Unit {0}

-- The hierarchy is that of the rows of so many items: it has these items, and each has the ancestors that the
-- links of the rows lead to. These have no cycle, and the items not too many ancestors.
pub record Closes (items : ℕ) (rows : List EdgeRow) (h : Ancestry) : Type 0 where
  pub items_are : h.items ≡ items
  pub ancestors : (w t : Item) → (IsAncestor h.links w t ↔ IsAncestor (links_of rows) w t)
  pub acyclic : IsAcyclic (links_of rows)
  pub few : HasMoreAncestors most_ancestors (links_of rows) (λ t. t.0 < items) → ⊥

-- the links of the rows by the names of their items, each with its line
abbrev pub named_rows : List (List ℕ) → List EdgeRow → List (PlacedLink (List ℕ))
named_rows names rows = map
    (λ row. record { link = link_by (name_of names) (link_of row); line = row.line }) rows
