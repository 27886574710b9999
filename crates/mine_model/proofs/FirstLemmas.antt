-- At most one refusal comes first, where each kind has at most one.
use Rattle.std.proofs.Common.{◌≡◌, inl, inr, List, [], ◌∷◌, ◌++◌}
use Rattle.mine_model.specs.First.{FirstOf, FirstAmong}

-- there is at most one
abbrev pub AtMostOne : {F : Type 0} → (F → Type 0) → Type 0
AtMostOne {F} Has = (first second : F) → Has first → Has second → first ≡ second

pub FirstOf-unique : {F : Type 0} (First Second : F → Type 0) → AtMostOne First → AtMostOne Second → AtMostOne (FirstOf First Second)
FirstOf-unique First Second one two f g (inl p) (inl q) = one f g p q
FirstOf-unique First Second one two f g (inl p) (inr q) = absurd (q.0 f p)
FirstOf-unique First Second one two f g (inr p) (inl q) = absurd (p.0 g q)
FirstOf-unique First Second one two f g (inr p) (inr q) = two f g p.1 q.1

pub FirstAmong-unique : {X F : Type 0} (Refused : List X → X → F → Type 0)
    → ((before : List X) (x : X) → AtMostOne (Refused before x)) → (before xs : List X) → AtMostOne (FirstAmong Refused before xs)
FirstAmong-unique Refused one before [] f g p q = absurd p
FirstAmong-unique Refused one before (x ∷ rest) f g p q =
    FirstOf-unique (Refused before x) (FirstAmong Refused (before ++ x ∷ []) rest) (one before x)
    (FirstAmong-unique Refused one (before ++ x ∷ []) rest) f g p q
