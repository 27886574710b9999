-- Pattern expressions as trees, over what their leaves name. From the DESQ article; the item expressions are
-- this program's own.
use Rattle.std.specs.Prelude.{ℕ, ◌+◌, ◌*◌, max, Option, Some, None, List, [], ◌∷◌, ◌++◌}

-- the item expressions: w, w=, w^, w^=, a dot, a dot and ^, !w, !w=
pub data Leaf (A : Type 0) : Type 0 where
  under : A → Leaf A
  exact : A → Leaf A
  climb : A → Leaf A
  forced : A → Leaf A
  any : Leaf A
  any_climb : Leaf A
  not_under : A → Leaf A
  not_exact : A → Leaf A

-- an expression without where its parts lie in memory
pub data Tree (A : Type 0) : Type 0 where
  leaf : Leaf A → Tree A
  cat : Tree A → Tree A → Tree A
  alt : Tree A → Tree A → Tree A
  rep : Tree A → ℕ → Option ℕ → Tree A
  cap : Tree A → Tree A

-- how often a repetition counts: its upper bound, or without one its lower bound but at least once
abbrev pub unfolded_times : ℕ → Option ℕ → ℕ
unfolded_times least None = max least 1
unfolded_times least (Some most) = most

-- the number of item expressions once all repetitions are written out
abbrev pub unfolded_leaves : {A : Type 0} → Tree A → ℕ
unfolded_leaves (leaf l) = 1
unfolded_leaves (cat left right) = unfolded_leaves left + unfolded_leaves right
unfolded_leaves (alt left right) = unfolded_leaves left + unfolded_leaves right
unfolded_leaves (rep inner least most) = unfolded_times least most * unfolded_leaves inner
unfolded_leaves (cap inner) = unfolded_leaves inner

-- what the leaf names, if it names something
abbrev pub named_by : {A : Type 0} → Leaf A → List A
named_by (under w) = w ∷ []
named_by (exact w) = w ∷ []
named_by (climb w) = w ∷ []
named_by (forced w) = w ∷ []
named_by any = []
named_by any_climb = []
named_by (not_under w) = w ∷ []
named_by (not_exact w) = w ∷ []

-- what the leaves name, in the order of the text
abbrev pub named_in : {A : Type 0} → Tree A → List A
named_in (leaf l) = named_by l
named_in (cat left right) = named_in left ++ named_in right
named_in (alt left right) = named_in left ++ named_in right
named_in (rep inner least most) = named_in inner
named_in (cap inner) = named_in inner

abbrev pub leaf_by : {A B : Type 0} → (A → B) → Leaf A → Leaf B
leaf_by f (under w) = under (f w)
leaf_by f (exact w) = exact (f w)
leaf_by f (climb w) = climb (f w)
leaf_by f (forced w) = forced (f w)
leaf_by f any = any
leaf_by f any_climb = any_climb
leaf_by f (not_under w) = not_under (f w)
leaf_by f (not_exact w) = not_exact (f w)

-- the same tree over other things named
abbrev pub tree_by : {A B : Type 0} → (A → B) → Tree A → Tree B
tree_by f (leaf l) = leaf (leaf_by f l)
tree_by f (cat left right) = cat (tree_by f left) (tree_by f right)
tree_by f (alt left right) = alt (tree_by f left) (tree_by f right)
tree_by f (rep inner least most) = rep (tree_by f inner) least most
tree_by f (cap inner) = cap (tree_by f inner)
