-- Bounds on the ranks of a pattern, that of a pivot among them, and the labels that are alive within one.
-- From the article on pivots.
use Rattle.std.specs.Prelude.{ℕ, zero, suc, ◌-◌, ◌≤◌, Option, Some, None, IfSome, List, ◌∷◌, length, Contains}
use Rattle.std.specs.List.{AllByRecursion, slice_index_or}
use Rattle.mine_model.specs.declared.item.Item.{Item}
use Rattle.mine_model.specs.Answer.{Data}
use Rattle.mine_model.specs.Growth.{IsAlive}
use Rattle.mine_model.specs.Ranks.{HasRank, AreRanked}

-- the item with the rank
abbrev pub item_of_rank : List Item → ℕ → Item
item_of_rank order rank = slice_index_or order (rank - 1) (record { 0 = 0 })

-- the item has a rank up to the top
abbrev pub IsRankedUpTo : List Item → ℕ → Item → Type 0
IsRankedUpTo order top v = (rank : ℕ) × HasRank order v rank × (rank ≤ top)

-- the item with the rank is among these
abbrev pub HoldsRank : List Item → List Item → ℕ → Type 0
HoldsRank order items rank = (v : Item) × Contains items v × HasRank order v rank

-- all items have ranks up to the top, and the one with the rank that is needed is among them
pub record IsWithin (order : List Item) (top : ℕ) (need : Option ℕ) (items : List Item) : Type 0 where
  pub ranked : AllByRecursion (IsRankedUpTo order top) items
  pub needed : IfSome need (HoldsRank order items)

-- the bound of a pivot: it is the greatest rank of the pattern; 0 stands for no pivot, and then any ranks are
-- within the bound
abbrev pub IsWithinPivot : List Item → ℕ → List Item → Type 0
IsWithinPivot order zero items = IsWithin order (length order) None items
IsWithinPivot order (suc before) items = IsWithin order (suc before) (Some (suc before)) items

-- the label of a pivot, or 0, and the ranks of a prefix
abbrev pub label_of : ℕ → List ℕ → List ℕ
label_of pivot ranks = pivot ∷ ranks

-- the label is alive: the prefix with these ranks is, within the bound of the pivot
pub record IsAliveLabel (d : Data Item) (order : List Item) (pivot : ℕ) (ranks : List ℕ) : Type 0 where
  pub prefix : List Item
  pub ranked : AreRanked order prefix ranks
  pub alive : IsAlive d (IsWithinPivot order pivot) prefix
