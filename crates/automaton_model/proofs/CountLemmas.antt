-- Counting groups of sequences with equal codes is counting the sequences.
use Rattle.std.proofs.Common.{◌≡◌, ◌≢◌, ℕ, ◌+◌, ◌↔◌, ◌⊎◌, inl, inr, List, [], ◌∷◌, sym, subst, arith}
use Rattle.std.specs.List.{AllPairs, AllByRecursion, Contains}
use Rattle.mine_model.specs.Support.{Sequence, Counts}
use Rattle.mine_model.proofs.ListLemmas.{Contains-cases, Contains-first, Contains-other, Contains-none, AllPairs-tail, AllPairs-head}
use Rattle.mine_model.proofs.SupportLemmas.{Counts-unique, Counts-decided}
use Rattle.mine_model.proofs.FrequencyLemmas.{Counts-none}
use Rattle.automaton_model.specs.declared.groups.Group.{Group}
use Rattle.automaton_model.specs.Groups.{grouped}

-- what one of two properties has, which exclude each other, is counted as both together
pub Counts-either : {A : Type 0} (P Q Either : List A → Type 0) → ((items : List A) → P items → Either items) → ((items : List A) → Q items → Either items)
    → ((items : List A) → Either items → P items ⊎ Q items) → ((items : List A) → P items → Q items → ⊥)
    → (sequences : List (Sequence A)) (m n : ℕ) → Counts P sequences m → Counts Q sequences n → Counts Either sequences (m + n)
Counts-either P Q Either left right cases apart [] m n p q = omega (arith, p, q)
Counts-either P Q Either left right cases apart (s ∷ sequences) m n (inl p) (inl q) = absurd (apart s.items p.0 q.0)
Counts-either P Q Either left right cases apart (s ∷ sequences) m n (inl p) (inr q) =
    inl (left s.items p.0, (p.1.0 + n, omega (arith, p.1.1), Counts-either P Q Either left right cases apart sequences p.1.0 n p.1.2 q.1))
Counts-either P Q Either left right cases apart (s ∷ sequences) m n (inr p) (inl q) =
    inl (right s.items q.0, (m + q.1.0, omega (arith, q.1.1), Counts-either P Q Either left right cases apart sequences m q.1.0 p.1 q.1.2))
Counts-either P Q Either left right cases apart (s ∷ sequences) m n (inr p) (inr q) =
    inr (
      (λ either. elim (cases s.items either) [ inl is ↦ p.0 is | inr is ↦ q.0 is ]),
      Counts-either P Q Either left right cases apart sequences m n p.1 q.1,
    )

-- properties that follow from each other at these sequences are counted alike
pub Counts-within : {A : Type 0} (Has Also : List A → Type 0) (sequences : List (Sequence A))
    → ((s : Sequence A) → Contains sequences s → Has s.items ↔ Also s.items) → (n : ℕ) → Counts Has sequences n → Counts Also sequences n
Counts-within Has Also [] same n p = p
Counts-within Has Also (s ∷ sequences) same n (inl p) =
    inl ((same s (Contains-first s sequences)).0 p.0, (p.1.0, p.1.1, Counts-within Has Also sequences (λ t held. same t (Contains-other s sequences t held)) p.1.0 p.1.2))
Counts-within Has Also (s ∷ sequences) same n (inr p) =
    inr ((λ also. p.0 ((same s (Contains-first s sequences)).1 also)), Counts-within Has Also sequences (λ t held. same t (Contains-other s sequences t held)) n p.1)

-- The sequences have codes, at most one each; some codes have a property.
module _ {A : Type 0} (IsCode : List ℕ → List A → Type 0) (one : (items : List A) (code other : List ℕ) → IsCode code items → IsCode other items → code ≡ other)
    (Lies : List ℕ → Type 0) where
  -- the items have the code of one of the groups, and that has the property
  abbrev pub IsIn : List Group → List A → Type 0
  IsIn groups items = (group : Group) × Contains groups group × IsCode group.automaton items × Lies group.automaton

  in_more : (group : Group) (groups : List Group) (items : List A) → IsIn groups items → IsIn (group ∷ groups) items
  in_more group groups items (other, held, code, lies) = (other, Contains-other group groups other held, code, lies)

  in_less : (group : Group) (groups : List Group) → (Lies group.automaton → ⊥) → (items : List A) → IsIn (group ∷ groups) items → IsIn groups items
  in_less group groups no_lies items (other, held, code, lies) = elim (Contains-cases group groups other held) [
    | inl same ↦ absurd (no_lies (subst (λ (g : Group). Lies g.automaton) same lies))
    | inr later ↦ (other, later, code, lies)
  ]

  in_cases : (group : Group) (groups : List Group) (items : List A) → IsIn (group ∷ groups) items → IsCode group.automaton items ⊎ IsIn groups items
  in_cases group groups items (other, held, code, lies) = elim (Contains-cases group groups other held) [
    | inl same ↦ inl (subst (λ (g : Group). IsCode g.automaton items) same code)
    | inr later ↦ inr (other, later, code, lies)
  ]

  module _ (sequences : List (Sequence A)) where
    no_groups : (xs : List (Sequence A)) → AllByRecursion (λ (s : Sequence A). IsIn [] s.items → ⊥) xs
    no_groups [] = tt
    no_groups (s ∷ xs) = ((λ (group, held, code, lies). Contains-none group held), no_groups xs)

    -- what groups with different codes count of the property is what the sequences count that are in them
    pub groups-sequences : (groups : List Group) → AllPairs (λ (low : Group) (high : Group). low.automaton ≢ high.automaton) groups
        → ((group : Group) → Contains groups group → Counts (IsCode group.automaton) sequences group.count)
        → (n : ℕ) → Counts Lies (grouped groups) n → Counts (IsIn groups) sequences n
    groups-sequences [] apart counted n c = subst (Counts (IsIn []) sequences) (sym c) (Counts-none (IsIn []) sequences (no_groups sequences))
    groups-sequences (group ∷ groups) apart counted n (inl c) =
        let rest : Counts (IsIn groups) sequences c.1.0 = groups-sequences groups (AllPairs-tail (λ (low : Group) (high : Group). low.automaton ≢ high.automaton) group groups apart)
        (λ g held. counted g (Contains-other group groups g held)) c.1.0 c.1.2 in
        subst (Counts (IsIn (group ∷ groups)) sequences) (sym c.1.1)
        (Counts-either (IsCode group.automaton) (IsIn groups) (IsIn (group ∷ groups))
        (λ items code. (group, Contains-first group groups, code, c.0)) (in_more group groups) (in_cases group groups)
        (λ items code (other, held, also, lies).
        AllPairs-head (λ (low : Group) (high : Group). low.automaton ≢ high.automaton) group groups apart other held (one items group.automaton other.automaton code also))
        sequences group.count c.1.0 (counted group (Contains-first group groups)) rest)
    groups-sequences (group ∷ groups) apart counted n (inr c) =
        Counts-within (IsIn groups) (IsIn (group ∷ groups)) sequences (λ s held. (in_more group groups s.items, in_less group groups c.0 s.items)) n
        (groups-sequences groups (AllPairs-tail (λ (low : Group) (high : Group). low.automaton ≢ high.automaton) group groups apart)
        (λ g held. counted g (Contains-other group groups g held)) n c.1)

    -- and back, where the property is decided of each code
    pub sequences-groups : (groups : List Group) → AllPairs (λ (low : Group) (high : Group). low.automaton ≢ high.automaton) groups
        → ((group : Group) → Contains groups group → Counts (IsCode group.automaton) sequences group.count)
        → ((group : Group) → Contains groups group → Lies group.automaton ⊎ (Lies group.automaton → ⊥))
        → (n : ℕ) → Counts (IsIn groups) sequences n → Counts Lies (grouped groups) n
    sequences-groups groups apart counted decided n c =
        let (m, found) = Counts-decided Lies (grouped groups) (λ s held. code_decided groups decided s held) in
        let same : m ≡ n = Counts-unique (IsIn groups) sequences m n (groups-sequences groups apart counted m found) c in
        subst (Counts Lies (grouped groups)) same found
      where
        code_decided : (groups : List Group) → ((group : Group) → Contains groups group → Lies group.automaton ⊎ (Lies group.automaton → ⊥))
            → (s : Sequence ℕ) → Contains (grouped groups) s → Lies s.items ⊎ (Lies s.items → ⊥)
        code_decided [] decided s held = absurd (Contains-none s held)
        code_decided (group ∷ groups) decided s held = elim (Contains-cases (record { items = group.automaton; weight = group.count }) (grouped groups) s held) [
          | inl same ↦ subst (λ (t : Sequence ℕ). Lies t.items ⊎ (Lies t.items → ⊥)) (sym same) (decided group (Contains-first group groups))
          | inr later ↦ code_decided groups (λ g inside. decided g (Contains-other group groups g inside)) s later
        ]
