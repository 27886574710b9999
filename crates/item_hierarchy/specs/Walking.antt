-- A walk over all items that goes up from each before it leaves it.
use Rattle.std.specs.Prelude.{◌≡◌, ◌≢◌, ℕ, ◌+◌, ◌*◌, ◌≤◌, ◌<◌, Bool, true, false, List, length, take, slice_index, slice_index_or, count_by, All, AllPairs, Contains}
use Rattle.mine_model.specs.declared.item.Item.{Item}
use Rattle.mine_model.specs.Hierarchy.{Link, links_through}
use Rattle.item_hierarchy.specs.declared.edges.EdgeRow.{EdgeRow}
use Rattle.item_hierarchy.specs.declared.walk.Mark.{Mark}
use Rattle.item_hierarchy.specs.declared.walk.Mark.TheVariants.{New, Open, Done}
use Rattle.item_hierarchy.specs.Edges.{placed_of, AreWithin}
use Rattle.item_hierarchy.specs.ByChild.{AreByChild}

-- the links of the rows up to a line
abbrev pub links_upto : ℕ → List EdgeRow → List (Link Item)
links_upto line rows = links_through line (placed_of rows)

abbrev pub IsMarked : List Mark → Item → Mark → Type 0
IsMarked marks t mark = (t.0 < length marks) × (slice_index_or marks t.0 mark ≡ mark)

-- each item once, behind all its parents
pub record IsParentsFirst (links : List (Link Item)) (items : ℕ) (order : List Item) : Type 0 where
  pub within : All (λ t. t.0 < items) order
  pub complete : (t : Item) → t.0 < items → Contains order t
  pub once : AllPairs (λ t w. t ≢ w) order
  pub first : (k : ℕ) (d : Item) (parent : Item) → k < length order
      → Contains links (record { child = slice_index_or order k d; parent = parent })
      → Contains (take k order) parent

-- the open items lead from each to the next by a link; what is done stands behind its parents
pub record IsWalking (links : List (Link Item)) (items : ℕ) (marks : List Mark)
    (open_items order : List Item) : Type 0 where
  pub size : length marks ≡ items
  pub are_open : All (λ t. IsMarked marks t Open) open_items
  pub all_open : (t : Item) → IsMarked marks t Open → Contains open_items t
  pub apart : AllPairs (λ t w. t ≢ w) open_items
  pub leads : (k : ℕ) (d : Item) → k + 1 < length open_items
      → Contains links
      (record { child = slice_index_or open_items k d; parent = slice_index_or open_items (k + 1) d })
  pub are_done : All (λ t. IsMarked marks t Done) order
  pub all_done : (t : Item) → IsMarked marks t Done → Contains order t
  pub once : AllPairs (λ t w. t ≢ w) order
  pub first : (k : ℕ) (d : Item) (parent : Item) → k < length order
      → Contains links (record { child = slice_index_or order k d; parent = parent })
      → Contains (take k order) parent

-- of each item the rows before its next one lead to what is done, or stand on a later line
abbrev pub HavePassed : ℕ → List ℕ → List EdgeRow → ℕ → List Mark → List ℕ → Type 0
HavePassed items starts rows line marks next =
    (n : ℕ) → n < items
    → (slice_index starts n ≤ slice_index next n) × (slice_index next n ≤ slice_index starts (n + 1))
    × ((k : ℕ) (d : EdgeRow) → slice_index starts n ≤ k → k < slice_index next n
    → (slice_index_or rows k d).line ≤ line
    → IsMarked marks (slice_index_or rows k d).parent Done)

abbrev pub is_new : Mark → Bool
is_new New = true
is_new Open = false
is_new Done = false

-- how many steps may be left
abbrev pub steps_left : List Mark → List Item → ℕ
steps_left marks open_items = 2 * count_by is_new marks + length open_items

-- a walk up the rows to a line, in the midst of it: the rows by child, and how far it has come
pub record Walks (items : ℕ) (starts : List ℕ) (rows : List EdgeRow) (line : ℕ) (marks : List Mark)
    (next : List ℕ) (open_items order : List Item) : Type 0 where
  pub sorted : AreByChild items starts rows
  pub within : AreWithin items rows
  pub walking : IsWalking (links_upto line rows) items marks open_items order
  pub size : length next ≡ items + 1
  pub passed : HavePassed items starts rows line marks next
