-- Expressions with their repetitions written out, and what they make.
use Rattle.std.specs.Prelude.{◌≡◌, ℕ, zero, suc, ◌≤◌, Bool, true, ◌⊎◌, List, [], ◌∷◌, ◌++◌, length, Option, Some, None}
use Rattle.std.specs.List.{AllByRecursion, flat_map}
use Rattle.mine_model.specs.declared.item.Item.{Item}
use Rattle.mine_model.specs.Hierarchy.{Link}
use Rattle.mine_model.specs.Expression.{Leaf, Tree, leaf, cat, alt, rep, cap}
use Rattle.mine_model.specs.Generation.{Matches, WritesAt, Turn}

-- an expression over items or their names whose repetitions are written out: each leaf says whether it stands
-- inside a capture
pub data ShapeOf (A : Type 0) : Type 0 where
  one : Leaf A → Bool → ShapeOf A
  nothing : ShapeOf A
  never : ShapeOf A
  both : ShapeOf A → ShapeOf A → ShapeOf A
  either : ShapeOf A → ShapeOf A → ShapeOf A
  maybe : ShapeOf A → ShapeOf A
  more : ShapeOf A → ShapeOf A

abbrev pub Shape : Type 0
Shape = ShapeOf Item

-- up to n copies, each with those behind it optional
abbrev pub up_to : {A : Type 0} → ℕ → ShapeOf A → ShapeOf A
up_to zero shape = nothing
up_to (suc n) shape = maybe (both shape (up_to n shape))

-- n copies, and then optional ones, m copies in all
abbrev pub between : {A : Type 0} → ℕ → ℕ → ShapeOf A → ShapeOf A
between zero m shape = up_to m shape
between (suc n) zero shape = never
between (suc n) (suc m) shape = both shape (between n m shape)

-- n copies, but at least one, the last of which may be repeated
abbrev pub at_least : {A : Type 0} → ℕ → ShapeOf A → ShapeOf A
at_least zero shape = maybe (more shape)
at_least (suc zero) shape = more shape
at_least (suc (suc n)) shape = both shape (at_least (suc n) shape)

abbrev pub repeated : {A : Type 0} → ShapeOf A → ℕ → Option ℕ → ShapeOf A
repeated shape least (Some most) = between least most shape
repeated shape least None = at_least least shape

abbrev pub unfold_tree : {A : Type 0} → Tree A → Bool → ShapeOf A
unfold_tree (leaf l) captured = one l captured
unfold_tree (cat left right) captured = both (unfold_tree left captured) (unfold_tree right captured)
unfold_tree (alt left right) captured = either (unfold_tree left captured) (unfold_tree right captured)
unfold_tree (rep inner least most) captured = repeated (unfold_tree inner captured) least most
unfold_tree (cap inner) captured = unfold_tree inner true

-- what a position reads, and whether it writes
pub record EntryOf (A : Type 0) : Type 0 where
  pub leaf : Leaf A
  pub captured : Bool

abbrev pub Entry : Type 0
Entry = EntryOf Item

-- the leaves in the order of the text
abbrev pub labels_of : {A : Type 0} → ShapeOf A → List (EntryOf A)
labels_of (one l captured) = record { leaf = l; captured = captured } ∷ []
labels_of nothing = []
labels_of never = []
labels_of (both a b) = labels_of a ++ labels_of b
labels_of (either a b) = labels_of a ++ labels_of b
labels_of (maybe a) = labels_of a
labels_of (more a) = labels_of a

-- each turn is made, and the input and output are those of all turns
abbrev pub InTurns : (List Item → List Item → Type 0) → List (Turn Item) → List Item → List Item → Type 0
InTurns Made turns input output =
    (input ≡ flat_map (λ turn. turn.input) turns) × (output ≡ flat_map (λ turn. turn.output) turns)
    × AllByRecursion (λ turn. Made turn.input turn.output) turns

-- what the first makes, and then the second
abbrev pub InOrder : (List Item → List Item → Type 0) → (List Item → List Item → Type 0) → List Item
    → List Item → Type 0
InOrder First Second input output =
    (input1 : List Item) × (input2 : List Item) × (output1 : List Item) × (output2 : List Item)
    × (input ≡ input1 ++ input2) × (output ≡ output1 ++ output2)
    × First input1 output1 × Second input2 output2

-- the shape makes the output from the whole input
abbrev pub Makes : List (Link Item) → Shape → List Item → List Item → Type 0
Makes links (one l captured) input output = (t : Item) × (input ≡ t ∷ []) × Matches links l t
    × WritesAt links l captured t output
Makes links nothing input output = (input ≡ []) × (output ≡ [])
Makes links never input output = ⊥
Makes links (both a b) input output = InOrder (λ i o. Makes links a i o)
    (λ i o. Makes links b i o) input output
Makes links (either a b) input output = Makes links a input output ⊎ Makes links b input output
Makes links (maybe a) input output = ((input ≡ []) × (output ≡ [])) ⊎ Makes links a input output
Makes links (more a) input output = (turns : List (Turn Item)) × (1 ≤ length turns) × InTurns
    (λ i o. Makes links a i o) turns input output
