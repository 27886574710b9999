-- The tree of the tests of schedules: a kid adds one rank to its parent's label, and a label with no kids has
-- a row.
use Rattle.std.specs.Prelude.{ℕ, cond, Option, Some, None, List, [], ◌∷◌, map}
use Rattle.std.specs.Str.{bytes_eq}
use Rattle.mine_model.specs.declared.row.Row.{Row}

abbrev pub row_at : List ℕ → List ℕ → Option Row
row_at [] label = Some (record { pattern = map (λ rank. record { 0 = rank }) label; support = 2 })
row_at (rank ∷ ranks) label = None

abbrev pub row_by : (List ℕ → List ℕ) → List ℕ → Option Row
row_by ranks label = row_at (ranks label) label

-- the labels 0, 0 3, 0 3 1, 0 3 2, 0 3 2 1, 0 3 3 and 0 3 3 1
abbrev pub small_ranks : List ℕ → List ℕ
small_ranks label =
    cond (bytes_eq label (0 ∷ [])) (3 ∷ [])
    (cond (bytes_eq label (0 ∷ 3 ∷ [])) (1 ∷ 2 ∷ 3 ∷ [])
    (cond (bytes_eq label (0 ∷ 3 ∷ 2 ∷ [])) (1 ∷ []) (cond (bytes_eq label (0 ∷ 3 ∷ 3 ∷ [])) (1 ∷ []) [])))

-- the labels of the small tree
abbrev pub small_tree : List (List ℕ)
small_tree =
    (0 ∷ []) ∷ (0 ∷ 3 ∷ []) ∷ (0 ∷ 3 ∷ 1 ∷ []) ∷ (0 ∷ 3 ∷ 2 ∷ []) ∷ (0 ∷ 3 ∷ 3 ∷ [])
    ∷ (0 ∷ 3 ∷ 2 ∷ 1 ∷ []) ∷ (0 ∷ 3 ∷ 3 ∷ 1 ∷ []) ∷ []
