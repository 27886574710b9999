-- A path over a sequence by the item expressions that it passes, which are numbered from 1 in the order of
-- the text once all repetitions are written out. This program's own.
use Rattle.std.specs.Prelude.{◌≡◌, ℕ, ◌-◌, false, ◌⊎◌, Some, List, [], ◌∷◌, ◌++◌}
use Rattle.std.specs.List.{slice_get}
use Rattle.mine_model.specs.declared.item.Item.{Item}
use Rattle.mine_model.specs.Hierarchy.{Link}
use Rattle.mine_model.specs.Numbered.{tree_of}
use Rattle.mine_model.specs.Generation.{Matches, WritesAt}
use Rattle.fst_compile.specs.Shape.{ShapeOf, EntryOf, labels_of, unfold_tree}
use Rattle.fst_compile.specs.Positions.{CanBeEmpty, First, Last, Follows}
use Rattle.mining_job.specs.Problems.{Problem, items_of}

-- the item expression may come next: first of all, or behind another
abbrev pub MayComeNext : {A : Type 0} → ShapeOf A → ℕ → ℕ → Type 0
MayComeNext shape at next = ((at ≡ 0) × First shape 1 next) ⊎ Follows shape 1 at next

-- the path may end there
abbrev pub MayEnd : {A : Type 0} → ShapeOf A → ℕ → Type 0
MayEnd shape at = ((at ≡ 0) × CanBeEmpty shape) ⊎ Last shape 1 at

-- From there on these item expressions come, one for each item, and the path may end behind the last. They
-- match the items and write the output.
abbrev pub Passes : {A : Type 0} → List (Link A) → ShapeOf A → ℕ → List ℕ → List A → List A → Type 0
Passes links shape at [] [] output = MayEnd shape at × (output ≡ [])
Passes links shape at [] (t ∷ items) output = ⊥
Passes links shape at (next ∷ states) [] output = ⊥
Passes {A} links shape at (next ∷ states) (t ∷ items) output =
    (entry : EntryOf A) × (here : List A) × (there : List A)
    × MayComeNext shape at next × (slice_get (labels_of shape) (next - 1) ≡ Some entry)
    × Matches links entry.leaf t × WritesAt links entry.leaf entry.captured t here
    × (output ≡ here ++ there) × Passes links shape next states items there

-- the states are a path over the sequence with this number, counted from 0, which writes the pattern
abbrev pub Writes : Problem → ℕ → List ℕ → List Item → Type 0
Writes problem place states pattern =
    Passes problem.hierarchy.links (unfold_tree (tree_of problem.transducer.expression) false) 0 states
    (items_of problem place) pattern
