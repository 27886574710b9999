-- What an expression generates from a sequence. From the DESQ article, the meaning of pattern expressions.
use Rattle.std.specs.Prelude.{◌≡◌, ◌≢◌, ℕ, ◌≤◌, Bool, true, false, ◌⊎◌, List, [], ◌∷◌, ◌++◌, length, Option, IfSome}
use Rattle.std.specs.List.{AllByRecursion, flat_map}
use Rattle.mine_model.specs.Hierarchy.{Link, IsAncestor}
use Rattle.mine_model.specs.Expression.{Leaf, under, exact, climb, forced, any_climb, not_under, not_exact, Tree, leaf, cat, alt, rep, cap}

-- the leaf matches t
abbrev pub Matches : {A : Type 0} → List (Link A) → Leaf A → A → Type 0
Matches links (under w) t = IsAncestor links w t
Matches links (exact w) t = t ≡ w
Matches links (climb w) t = IsAncestor links w t
Matches links (forced w) t = IsAncestor links w t
Matches links (not_under w) t = IsAncestor links w t → ⊥
Matches links (not_exact w) t = t ≢ w
Matches links _ t = Unit {0}

-- at t the leaf may write v, inside a capture: what it names, what stands between, or t itself
abbrev pub MayWrite : {A : Type 0} → List (Link A) → Leaf A → A → A → Type 0
MayWrite links (exact w) t v = v ≡ w
MayWrite links (climb w) t v = IsAncestor links v t × IsAncestor links w v
MayWrite links (forced w) t v = v ≡ w
MayWrite links any_climb t v = IsAncestor links v t
MayWrite links _ t v = v ≡ t

-- what the leaf writes at t: one item inside a capture, nothing outside
abbrev pub WritesAt : {A : Type 0} → List (Link A) → Leaf A → Bool → A → List A → Type 0
WritesAt {A} links l true t output = (v : A) × MayWrite links l t v × (output ≡ v ∷ [])
WritesAt links l false t output = output ≡ []

-- one turn of a repetition: what it takes of the sequence, and what it writes
pub record Turn (A : Type 0) : Type 0 where
  pub input : List A
  pub output : List A

abbrev pub IsAtMost : ℕ → Option ℕ → Type 0
IsAtMost n most = IfSome most (λ most. n ≤ most)

-- The tree generates the output from the whole input, inside a capture or outside.
abbrev pub Generates : {A : Type 0} → List (Link A) → Tree A → Bool → List A → List A → Type 0
Generates {A} links (leaf l) captured input output =
    (t : A) × (input ≡ t ∷ []) × Matches links l t × WritesAt links l captured t output
Generates {A} links (cat left right) captured input output =
    (input1 : List A) × (input2 : List A) × (output1 : List A) × (output2 : List A)
    × (input ≡ input1 ++ input2) × (output ≡ output1 ++ output2)
    × Generates links left captured input1 output1 × Generates links right captured input2 output2
Generates links (alt left right) captured input output =
    Generates links left captured input output ⊎ Generates links right captured input output
Generates {A} links (rep inner least most) captured input output =
    (turns : List (Turn A)) × (least ≤ length turns) × IsAtMost (length turns) most
    × (input ≡ flat_map (λ turn. turn.input) turns) × (output ≡ flat_map (λ turn. turn.output) turns)
    × AllByRecursion (λ turn. Generates links inner captured turn.input turn.output) turns
Generates links (cap inner) captured input output = Generates links inner true input output

-- a pattern of the sequence: a non-empty output that the expression generates from it
abbrev pub IsPatternOf : {A : Type 0} → List (Link A) → Tree A → List A → List A → Type 0
IsPatternOf links tree sequence pattern = (pattern ≢ []) × Generates links tree false sequence pattern
