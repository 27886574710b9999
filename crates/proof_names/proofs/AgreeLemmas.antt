-- First refusals that agree, though their faults have other names.
use Rattle.std.proofs.Common.{◌≡◌, inl, inr, List, [], ◌∷◌, ◌++◌}
use Rattle.mine_model.specs.First.{FirstOf, FirstAmong}

-- each fault of the one kind has an image of the other, and there are no others
pub record Agree {F G : Type 0} (f : F → G) (Refused : F → Type 0) (Also : G → Type 0) : Type 0 where
  pub forth : (x : F) → Refused x → Also (f x)
  pub back : (y : G) → Also y → (x : F) × (y ≡ f x) × Refused x

pub agree-first : {F G : Type 0} (f : F → G) (First Second : F → Type 0) (One Two : G → Type 0) → Agree f First One → Agree f Second Two
    → Agree f (FirstOf First Second) (FirstOf One Two)
agree-first f First Second One Two one two = record {
  forth = λ x refused. elim refused [
    | inl p ↦ inl (one.forth x p)
    | inr p ↦ inr ((λ other also. (let (own, same, is) = one.back other also in p.0 own is)), two.forth x p.1)
  ];
  back = λ y refused. elim refused [
    | inl p ↦ let (x, same, is) = one.back y p in (x, same, inl is)
    | inr p ↦ let (x, same, is) = two.back y p.1 in (x, same, inr ((λ other also. p.0 (f other) (one.forth other also)), is))
  ];
}

pub agree-among : {X F G : Type 0} (f : F → G) (Refused : List X → X → F → Type 0) (Also : List X → X → G → Type 0)
    → ((before : List X) (x : X) → Agree f (Refused before x) (Also before x)) → (before xs : List X) → Agree f (FirstAmong Refused before xs) (FirstAmong Also before xs)
agree-among f Refused Also each before [] = record { forth = λ x none. none; back = λ y none. absurd none }
agree-among f Refused Also each before (x ∷ rest) =
    agree-first f (Refused before x) (FirstAmong Refused (before ++ x ∷ []) rest) (Also before x) (FirstAmong Also (before ++ x ∷ []) rest)
    (each before x) (agree-among f Refused Also each (before ++ x ∷ []) rest)
