-- Sums over the hands of a lock, and what one is beside another.
use Rattle.std.proofs.Common.{◌≡◌, ◌≢◌, ℕ, zero, suc, ◌+◌, ◌≤◌, List, [], ◌∷◌, sym, refl, ap, arith, sum_by}
use Rattle.std.proofs.lemmas.List.Sums.{sum_by-cons}
use mathlib.Core.Option.{some, some-injective, some-ne-none}
use lib.ListN.{get_elem?}
use Rattle.mine_model.proofs.SumLemmas.{sum_by_at}

module _ {A : Type 0} (f : A → ℕ) where
  -- two different hands
  pub sum_by_two : (l : List A) (i j : ℕ) (v w : A) → get_elem? l i ≡ some v → get_elem? l j ≡ some w → j ≢ i → f v + f w ≤ sum_by f l
  sum_by_two [] i j v w e e' n = absurd (some-ne-none v (sym e))
  sum_by_two (x ∷ xs) zero zero v w e e' n = absurd (n refl)
  sum_by_two (x ∷ xs) zero (suc j) v w e e' n = let is : f x ≡ f v = ap f (some-injective x v e) in omega (arith, sum_by-cons f x xs, sum_by_at f xs j w e')
  sum_by_two (x ∷ xs) (suc i) zero v w e e' n = let is : f x ≡ f w = ap f (some-injective x w e') in omega (arith, sum_by-cons f x xs, sum_by_at f xs i v e)
  sum_by_two (x ∷ xs) (suc i) (suc j) v w e e' n = omega (arith, sum_by-cons f x xs, sum_by_two xs i j v w e e' (λ same. n (ap suc same)))

  module _ (g : A → ℕ) where
    -- one sum is no more than another, where this is so of each hand
    pub sum_by_le : (l : List A) → ((i : ℕ) (v : A) → get_elem? l i ≡ some v → f v ≤ g v) → sum_by f l ≤ sum_by g l
    sum_by_le [] each = omega arith
    sum_by_le (x ∷ xs) each = let here = each 0 x refl in omega (arith, sum_by-cons f x xs, sum_by-cons g x xs, sum_by_le xs (λ i v e. each (suc i) v e))

    -- the same, with the hand at one place taken out
    pub sum_by_le_beside : (l : List A) (i : ℕ) (v : A) → get_elem? l i ≡ some v → ((j : ℕ) (w : A) → get_elem? l j ≡ some w → f w ≤ g w) → sum_by f l + g v ≤ sum_by g l + f v
    sum_by_le_beside [] i v e each = absurd (some-ne-none v (sym e))
    sum_by_le_beside (x ∷ xs) zero v e each =
        let is : f x ≡ f v = ap f (some-injective x v e) in let is' : g x ≡ g v = ap g (some-injective x v e) in
        omega (arith, sum_by-cons f x xs, sum_by-cons g x xs, sum_by_le xs (λ j w e'. each (suc j) w e'))
    sum_by_le_beside (x ∷ xs) (suc i) v e each =
        let here = each 0 x refl in omega (arith, sum_by-cons f x xs, sum_by-cons g x xs, sum_by_le_beside xs i v e (λ j w e'. each (suc j) w e'))
