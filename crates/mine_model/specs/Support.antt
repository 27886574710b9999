-- Support of patterns, and frequency of items. From the DESQ article; weights are own.
use Rattle.std.specs.Prelude.{◌≡◌, ℕ, ◌+◌, ◌⊎◌, List, [], ◌∷◌, Contains}
use Rattle.mine_model.specs.Hierarchy.{Link, IsAncestor}
use Rattle.mine_model.specs.Expression.{Tree}
use Rattle.mine_model.specs.Generation.{IsPatternOf}

-- a sequence of the database, and what it counts
pub record Sequence (A : Type 0) : Type 0 where
  pub items : List A
  pub weight : ℕ

-- n is the sum of the weights of the sequences that have the property
abbrev pub Counts : {A : Type 0} → (List A → Type 0) → List (Sequence A) → ℕ → Type 0
Counts Has [] n = n ≡ 0
Counts Has (sequence ∷ sequences) n =
    (Has sequence.items × ((rest : ℕ) × (n ≡ sequence.weight + rest) × Counts Has sequences rest))
    ⊎ ((Has sequence.items → ⊥) × Counts Has sequences n)

-- n is the support of the pattern: a sequence counts its weight once, however often it generates the pattern
abbrev pub HasSupport : {A : Type 0} → List (Link A) → Tree A → List (Sequence A) → List A → ℕ → Type 0
HasSupport links tree sequences pattern n = Counts (λ items. IsPatternOf links tree items pattern) sequences n

-- the items hold one that is w or stands below w
abbrev pub HoldsUnder : {A : Type 0} → List (Link A) → A → List A → Type 0
HoldsUnder {A} links w items = (t : A) × Contains items t × IsAncestor links w t

-- n is the frequency of w
abbrev pub HasFrequency : {A : Type 0} → List (Link A) → List (Sequence A) → A → ℕ → Type 0
HasFrequency links sequences w n = Counts (HoldsUnder links w) sequences n
