-- Which of several refusals comes first.
use Rattle.std.specs.Prelude.{◌⊎◌, List, [], ◌∷◌, ◌++◌}

-- a refusal of the first kind, or where there is none, one of the second
abbrev pub FirstOf : {F : Type 0} → (F → Type 0) → (F → Type 0) → F → Type 0
FirstOf {F} First Second fault = First fault ⊎ (((other : F) → First other → ⊥) × Second fault)

-- the first refusal of the elements in order, each judged with the elements before it
abbrev pub FirstAmong : {X F : Type 0} → (List X → X → F → Type 0) → List X → List X → F → Type 0
FirstAmong Refused before [] fault = ⊥
FirstAmong Refused before (x ∷ rest) fault =
    FirstOf (Refused before x) (FirstAmong Refused (before ++ x ∷ []) rest) fault
