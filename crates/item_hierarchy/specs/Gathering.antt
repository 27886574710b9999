-- The ancestors of items, gathered one item after the other.
use Rattle.std.specs.Prelude.{◌≡◌, ◌≢◌, ℕ, ◌+◌, ◌≤◌, ◌<◌, ◌↔◌, ◌⊎◌, List, ◌++◌, length, slice_index, slice_index_or, All, AllPairs, Contains}
use Rattle.std.specs.List.{slice_range}
use Rattle.mine_model.specs.declared.item.Item.{Item}
use Rattle.mine_model.specs.Hierarchy.{Link, IsAncestor}
use Rattle.mine_model.specs.Limits.{most_ancestors}
use Rattle.mine_model.specs.Ancestry.{AreRising}
use Rattle.item_hierarchy.specs.declared.ancestors.Part.{Part}

-- exactly the gathered items have the stamp
pub record AreStamped (stamp : ℕ) (seen : List ℕ) (gathered : List Item) : Type 0 where
  pub within : All (λ w. w.0 < length seen) gathered
  pub apart : AllPairs (λ v w. v ≢ w) gathered
  pub stamped : All (λ w. slice_index seen w.0 ≡ stamp) gathered
  pub held : (w : Item) → w.0 < length seen → slice_index seen w.0 ≡ stamp → Contains gathered w

-- each stamp is for one of the items, or there is none
abbrev pub AreFor : List Item → List ℕ → Type 0
AreFor items seen = (n : ℕ) → (slice_index seen n ≡ 0) ⊎ ((t : Item) × Contains items t
    × (slice_index seen n ≡ t.0 + 1))

-- the item and ancestors of it are gathered, and with each other one all ancestors of that
pub record HoldsAncestors (links : List (Link Item)) (t : Item) (gathered : List Item) : Type 0 where
  pub itself : Contains gathered t
  pub sound : (w : Item) → Contains gathered w → IsAncestor links w t
  pub closed : (v w : Item) → Contains gathered v → (v ≢ t) → IsAncestor links w v → Contains gathered w

-- the part of an item
abbrev pub part_at : List Part → ℕ → Part
part_at parts n = slice_index_or parts n (record { from = 0; to = 0 })

-- the part does not end before it begins
abbrev pub IsForward : Part → Type 0
IsForward part = part.from ≤ part.to

-- the list in the part of an item
abbrev pub list_in : List Part → List Item → ℕ → List Item
list_in parts lists n = slice_range lists (part_at parts n).from (part_at parts n).to

-- the list of the item is that of its ancestors
pub record IsGathered (links : List (Link Item)) (parts : List Part) (lists : List Item)
    (t : Item) : Type 0 where
  pub inside : t.0 < length parts
  pub forward : IsForward (part_at parts t.0)
  pub within : (part_at parts t.0).to ≤ length lists
  pub rising : AreRising (list_in parts lists t.0)
  pub ancestors : (w : Item) → (Contains (list_in parts lists t.0) w ↔ IsAncestor links w t)

-- the pairs are each of these items with each of its ancestors, once
pub record ArePairs (links : List (Link Item)) (items : List Item) (pairs : List (Link Item)) : Type 0 where
  pub once : AllPairs (λ p q. p ≢ q) pairs
  pub sound : All (λ p. Contains items p.child × IsAncestor links p.parent p.child) pairs
  pub complete : (t w : Item) → Contains items t → IsAncestor links w t
      → Contains pairs (record { child = t; parent = w })

-- the lists of the items are gathered, and the lists hold nothing else
pub record AreGathered (links : List (Link Item)) (items : List Item) (parts : List Part)
    (lists : List Item) : Type 0 where
  pub each : All (λ t. IsGathered links parts lists t) items
  pub together : (pairs : List (Link Item)) × ArePairs links items pairs × (length pairs ≡ length lists)

-- the list of one more item stands behind the lists
pub record Adds (links : List (Link Item)) (t : Item) (old : List Part) (old_lists : List Item)
    (new : List Part) (new_lists : List Item) : Type 0 where
  pub size : length new ≡ length old
  pub gathered : IsGathered links new new_lists t
  pub others : (n : ℕ) → (n ≢ t.0) → part_at new n ≡ part_at old n
  pub own : (own : List Item) × (new_lists ≡ old_lists ++ own) × AllPairs (λ v w. v ≢ w) own
      × ((w : Item) → (Contains own w ↔ IsAncestor links w t))

-- with the ancestors of the item there are more than may be
abbrev pub Overflows : List (Link Item) → Item → ℕ → Type 0
Overflows links t size =
    (own : List Item) × AllPairs (λ v w. v ≢ w) own × ((w : Item) → Contains own w → IsAncestor links w t)
    × (most_ancestors < size + length own)

-- the part lies within the lists, and its list rises
pub record IsPart (parts : List Part) (lists : List Item) (n : ℕ) : Type 0 where
  pub forward : IsForward (part_at parts n)
  pub within : (part_at parts n).to ≤ length lists
  pub rising : AreRising (list_in parts lists n)

-- all lists together are no longer than they may be: each member of a list is one of so few pairs
abbrev pub AreFew : List Part → List Item → Type 0
AreFew parts lists =
    (pairs : List (Link Item)) × (length pairs ≤ most_ancestors)
    × ((t w : Item) → t.0 < length parts → Contains (list_in parts lists t.0) w
    → Contains pairs (record { child = t; parent = w }))
