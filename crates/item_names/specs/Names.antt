-- How a name gets its number: the names are a list, each at its number.
use Rattle.std.specs.Prelude.{◌≡◌, ℕ, ◌⊎◌, List, [], ◌∷◌, ◌++◌, Contains}

-- the names stay where the name is among them, and else it comes behind them
abbrev pub IsInterned : List (List ℕ) → List ℕ → List (List ℕ) → Type 0
IsInterned old name new =
    (Contains old name × (new ≡ old)) ⊎ ((Contains old name → ⊥) × (new ≡ old ++ name ∷ []))
