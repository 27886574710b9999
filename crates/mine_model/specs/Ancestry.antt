-- A hierarchy by the list of ancestors of each item, where all lists stand behind each other in one.
use Rattle.std.specs.Prelude.{◌≡◌, ℕ, ◌+◌, ◌<◌, ◌==◌, not, List, [], ◌∷◌, ◌++◌, map, filter, length, AllPairs, Contains}
use Rattle.std.specs.List.{slice_range}
use Rattle.flat_lists.specs.Cuts.{list_at, AreCut}
use Rattle.mine_model.specs.declared.item.Item.{Item}
use Rattle.mine_model.specs.Hierarchy.{Link}

-- what a hierarchy says: how many items it has, and what stands above what
pub record Ancestry : Type 0 where
  pub items : ℕ
  pub links : List (Link Item)

abbrev pub item_at : ℕ → Item
item_at number = record { 0 = number }

-- items by rising number
abbrev pub AreRising : List Item → Type 0
AreRising items = AllPairs (λ first second. first.0 < second.0) items

-- w is in the list of t
abbrev pub Lists : List ℕ → List Item → Item → Item → Type 0
Lists ends lists t w = (t.0 < length ends) × Contains (list_at ends lists t.0) w

-- Each list could be that of the ancestors of its item: it holds the item itself and the list of each of its
-- members, and different items are not in each other's lists.
pub record AreAncestorLists (ends : List ℕ) (lists : List Item) : Type 0 where
  pub cut : AreCut ends (length lists)
  pub rising : (number : ℕ) → number < length ends → AreRising (list_at ends lists number)
  pub itself : (number : ℕ) → number < length ends → Lists ends lists (item_at number) (item_at number)
  pub within : (t w : Item) → Lists ends lists t w → w.0 < length ends
  pub closed : (t v w : Item) → Lists ends lists t v → Lists ends lists v w → Lists ends lists t w
  pub apart : (t w : Item) → Lists ends lists t w → Lists ends lists w t → w ≡ t

-- the links from an item to each other item of its list
abbrev pub links_from_item : Item → List Item → List (Link Item)
links_from_item t list =
    map (λ w. record { child = t; parent = w }) (filter (λ w. not (w.0 == t.0)) list)

-- the links from the items from this number on, whose lists begin here
abbrev pub links_from_number : ℕ → ℕ → List ℕ → List Item → List (Link Item)
links_from_number number start [] lists = []
links_from_number number start (end ∷ ends) lists =
    links_from_item (item_at number) (slice_range lists start end)
    ++ links_from_number (number + 1) end ends lists

abbrev pub ancestry_of : List ℕ → List Item → Ancestry
ancestry_of ends lists = record { items = length ends; links = links_from_number 0 0 ends lists }
