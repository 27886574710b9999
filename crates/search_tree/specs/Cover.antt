-- A tree of labels by its roots and the kids of each label, and the lists that hold it.
use Rattle.std.specs.Prelude.{◌≡◌, ℕ, zero, suc, ◌⊎◌, ◌↔◌, List, ◌++◌, [], length, Contains}
use Rattle.std.specs.List.{flat_map}
use Rattle.mine_model.specs.Labels.{SameLabels, IsOnce}

-- each kid is longer by one than its parent
abbrev pub GrowByOne : (List ℕ → List (List ℕ)) → Type 0
GrowByOne kids = (label kid : List ℕ) → Contains (kids label) kid → length kid ≡ suc (length label)

-- the cover equation: the list holds the roots and the kids of what it holds, and nothing else
abbrev pub Covers : List (List ℕ) → (List ℕ → List (List ℕ)) → List (List ℕ) → Type 0
Covers roots kids labels = SameLabels labels (roots ++ flat_map kids labels)

-- the labels that many steps below the roots
abbrev pub level : List (List ℕ) → (List ℕ → List (List ℕ)) → ℕ → List (List ℕ)
level roots kids zero = roots
level roots kids (suc depth) = flat_map kids (level roots kids depth)

-- the label stands in the tree, some number of steps below the roots
abbrev pub IsInTree : List (List ℕ) → (List ℕ → List (List ℕ)) → List ℕ → Type 0
IsInTree roots kids label = (depth : ℕ) × Contains (level roots kids depth) label

-- the labels of the tree fewer steps below the roots than that
abbrev pub down_to : List (List ℕ) → (List ℕ → List (List ℕ)) → ℕ → List (List ℕ)
down_to roots kids zero = []
down_to roots kids (suc depth) = roots ++ flat_map kids (down_to roots kids depth)

-- roots and kids come once, each kid has one parent, and no root has one
pub record AreApart (roots : List (List ℕ)) (kids : List ℕ → List (List ℕ)) : Type 0 where
  pub once_roots : IsOnce roots
  pub once_kids : (parent : List ℕ) → IsOnce (kids parent)
  pub one_parent : (parent other kid : List ℕ) → Contains (kids parent) kid → Contains (kids other) kid
      → parent ≡ other
  pub no_parent : (parent root : List ℕ) → Contains roots root → Contains (kids parent) root → ⊥

-- a property that the labels of the tree have, and no others: the roots, and the kids of what has it
abbrev pub IsTree : List (List ℕ) → (List ℕ → List (List ℕ)) → (List ℕ → Type 0) → Type 0
IsTree roots kids Node =
    (label : List ℕ)
    → Node label ↔ (Contains roots label ⊎ ((parent : List ℕ) × Node parent × Contains (kids parent) label))

-- what is done and what is held are the roots and the kids of what is done
abbrev pub Balanced : List (List ℕ) → (List ℕ → List (List ℕ)) → List (List ℕ) → List (List ℕ)
    → Type 0
Balanced roots kids done held = SameLabels (done ++ held) (roots ++ flat_map kids done)

-- what one worker posted, put and got
pub record Shift : Type 0 where
  pub made : List (List ℕ)
  pub given : List (List ℕ)
  pub got : List (List ℕ)

-- what the worker posted and put is what it got and the kids of what it posted
abbrev pub IsEven : (List ℕ → List (List ℕ)) → Shift → Type 0
IsEven kids shift = SameLabels (shift.made ++ shift.given) (shift.got ++ flat_map kids shift.made)

abbrev pub all_made : List Shift → List (List ℕ)
all_made shifts = flat_map (λ (s : Shift). s.made) shifts

abbrev pub all_given : List Shift → List (List ℕ)
all_given shifts = flat_map (λ (s : Shift). s.given) shifts

abbrev pub all_got : List Shift → List (List ℕ)
all_got shifts = flat_map (λ (s : Shift). s.got) shifts
