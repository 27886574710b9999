-- What loads weigh.
use Rattle.std.proofs.Common.{◌≡◌, ◌↔◌, ℕ, ◌+◌, inl, inr, List, [], ◌∷◌, ◌++◌, refl, subst, arith}
use Rattle.std.specs.List.{Contains}
use Rattle.mine_model.specs.Support.{Sequence, Counts}
use Rattle.mine_model.proofs.ListLemmas.{Contains-first, Contains-other}
use Rattle.automaton_model.specs.Searches.{Load, Weigh}

-- properties that follow from each other at these loads weigh alike
pub Weigh-within : (Has Also : ℕ → Type 0) (loads : List Load) → ((load : Load) → Contains loads load → Has load.state ↔ Also load.state)
    → (n : ℕ) → Weigh Has loads n → Weigh Also loads n
Weigh-within Has Also [] same n p = p
Weigh-within Has Also (load ∷ loads) same n (inl p) =
    inl ((same load (Contains-first load loads)).0 p.0, (p.1.0, p.1.1, Weigh-within Has Also loads (λ other held. same other (Contains-other load loads other held)) p.1.0 p.1.2))
Weigh-within Has Also (load ∷ loads) same n (inr p) =
    inr ((λ also. p.0 ((same load (Contains-first load loads)).1 also)), Weigh-within Has Also loads (λ other held. same other (Contains-other load loads other held)) n p.1)

-- what two lists of loads weigh adds up
pub Weigh-append : (Has : ℕ → Type 0) (loads more : List Load) (n m : ℕ) → Weigh Has loads n → Weigh Has more m → Weigh Has (loads ++ more) (n + m)
Weigh-append Has [] more n m p q = subst (Weigh Has more) (omega (arith, p)) q
Weigh-append Has (load ∷ loads) more n m (inl p) q = inl (p.0, (p.1.0 + m, omega (arith, p.1.1), Weigh-append Has loads more p.1.0 m p.1.2 q))
Weigh-append Has (load ∷ loads) more n m (inr p) q = inr (p.0, Weigh-append Has loads more n m p.1 q)

-- one load more weighs more where it has the property
pub Weigh-more : (Has : ℕ → Type 0) (front back : List Load) (state old weight n : ℕ) → Has state
    → Weigh Has (front ++ (record { state = state; weight = old }) ∷ back) n → Weigh Has (front ++ (record { state = state; weight = old + weight }) ∷ back) (n + weight)
Weigh-more Has [] back state old weight n has (inl p) = inl (has, (p.1.0, omega (arith, p.1.1), p.1.2))
Weigh-more Has [] back state old weight n has (inr p) = absurd (p.0 has)
Weigh-more Has (load ∷ front) back state old weight n has (inl p) = inl (p.0, (p.1.0 + weight, omega (arith, p.1.1), Weigh-more Has front back state old weight p.1.0 has p.1.2))
Weigh-more Has (load ∷ front) back state old weight n has (inr p) = inr (p.0, Weigh-more Has front back state old weight n has p.1)

-- and no more where it has not
pub Weigh-no_more : (Has : ℕ → Type 0) (front back : List Load) (state old weight n : ℕ) → (Has state → ⊥)
    → Weigh Has (front ++ (record { state = state; weight = old }) ∷ back) n → Weigh Has (front ++ (record { state = state; weight = old + weight }) ∷ back) n
Weigh-no_more Has [] back state old weight n hasnt (inl p) = absurd (hasnt p.0)
Weigh-no_more Has [] back state old weight n hasnt (inr p) = inr (hasnt, p.1)
Weigh-no_more Has (load ∷ front) back state old weight n hasnt (inl p) = inl (p.0, (p.1.0, p.1.1, Weigh-no_more Has front back state old weight p.1.0 hasnt p.1.2))
Weigh-no_more Has (load ∷ front) back state old weight n hasnt (inr p) = inr (p.0, Weigh-no_more Has front back state old weight n hasnt p.1)

-- what two lists of sequences count together is the sum of what each counts
pub Counts-split : {A : Type 0} (Has : List A → Type 0) (xs ys : List (Sequence A)) (n : ℕ) → Counts Has (xs ++ ys) n
    → (a : ℕ) × (b : ℕ) × (n ≡ a + b) × Counts Has xs a × Counts Has ys b
Counts-split Has [] ys n c = (0, n, omega arith, refl, c)
Counts-split Has (s ∷ xs) ys n (inl c) =
    let (a, b, sum, first, second) = Counts-split Has xs ys c.1.0 c.1.2 in
    (s.weight + a, b, omega (arith, c.1.1, sum), inl (c.0, (a, refl, first)), second)
Counts-split Has (s ∷ xs) ys n (inr c) =
    let (a, b, sum, first, second) = Counts-split Has xs ys n c.1 in
    (a, b, sum, inr (c.0, first), second)
