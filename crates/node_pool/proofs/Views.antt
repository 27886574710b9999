-- Sums over the views of a deque's passes.
use Rattle.std.proofs.Common.{◌≡◌, ◌≢◌, ℕ, zero, suc, List, [], ◌∷◌, ◌++◌, set, sym, refl, ap, subst, ⊎_elim, arith, sum_by}
use Rattle.std.proofs.lemmas.List.Sums.{sum_by-cons}
use mathlib.Core.Option.{some, some-injective, some-ne-none}
use lib.ListN.{get_elem?}
use Rattle.mine_model.proofs.SumLemmas.{sum_by_at}
use Rattle.crossbeam_deque.proofs.Lists.{at_set, at_snoc}

module _ {V : Type 0} where
  -- where no view has a part, and a view with none weighs nothing, all weigh nothing
  pub none_left : (parts f : V → ℕ) (views : List V) → sum_by parts views ≡ 0 → ((j : ℕ) (u : V) → get_elem? views j ≡ some u → parts u ≡ 0 → f u ≡ 0) → sum_by f views ≡ 0
  none_left parts f [] zero_sum idle = refl
  none_left parts f (x ∷ xs) zero_sum idle = let c = sum_by-cons parts x xs in let d = sum_by-cons f x xs in
      let here : f x ≡ 0 = idle 0 x refl (omega arith) in
      let rest : sum_by f xs ≡ 0 = none_left parts f xs (omega arith) (λ j. idle (suc j)) in omega arith

  -- a view with all parts weighs as much as all views
  pub alone : (parts f : V → ℕ) (views : List V) (port : ℕ) (v : V) → get_elem? views port ≡ some v → sum_by parts views ≡ parts v → ((j : ℕ) (u : V) → get_elem? views j ≡ some u → parts u ≡ 0 → f u ≡ 0)
      → sum_by f views ≡ f v
  alone parts f [] port v e all idle = absurd (some-ne-none v (sym e))
  alone parts f (x ∷ xs) zero v e all idle = let c = sum_by-cons parts x xs in let d = sum_by-cons f x xs in
      let same : parts x ≡ parts v = ap parts (some-injective x v e) in let is : f x ≡ f v = ap f (some-injective x v e) in
      let rest : sum_by f xs ≡ 0 = none_left parts f xs (omega arith) (λ j. idle (suc j)) in omega arith
  alone parts f (x ∷ xs) (suc i) v e all idle = let c = sum_by-cons parts x xs in let d = sum_by-cons f x xs in let le = sum_by_at parts xs i v e in
      let here : f x ≡ 0 = idle 0 x refl (omega arith) in
      let rest : sum_by f xs ≡ f v = alone parts f xs i v e (omega arith) (λ j. idle (suc j)) in omega arith

  -- where one view has all parts, the others have none
  pub others_idle : (parts : V → ℕ) (views : List V) (port : ℕ) (v : V) → get_elem? views port ≡ some v → sum_by parts views ≡ parts v → (j : ℕ) (u : V) → j ≢ port → get_elem? views j ≡ some u → parts u ≡ 0
  others_idle parts [] port v e all j u other at = absurd (some-ne-none v (sym e))
  others_idle parts (x ∷ xs) zero v e all zero u other at = absurd (other refl)
  others_idle parts (x ∷ xs) zero v e all (suc j) u other at = let c = sum_by-cons parts x xs in let same : parts x ≡ parts v = ap parts (some-injective x v e) in let le = sum_by_at parts xs j u at in omega arith
  others_idle parts (x ∷ xs) (suc i) v e all zero u other at = let c = sum_by-cons parts x xs in let le = sum_by_at parts xs i v e in let same : parts x ≡ parts u = ap parts (some-injective x u at) in omega arith
  others_idle parts (x ∷ xs) (suc i) v e all (suc j) u other at = let c = sum_by-cons parts x xs in let le = sum_by_at parts xs i v e in
      others_idle parts xs i v e (omega arith) j u (λ is. other (ap suc is)) at

  -- what stands where it was written
  pub set_there : (views : List V) (port : ℕ) (v w : V) → get_elem? views port ≡ some v → get_elem? (set views port w) port ≡ some w
  set_there [] port v w e = absurd (some-ne-none v (sym e))
  set_there (x ∷ xs) zero v w e = refl
  set_there (x ∷ xs) (suc i) v w e = set_there xs i v w e

  -- what holds of each view
  abbrev pub Each : (ℕ → V → Type 0) → List V → Type 0
  Each F views = (port : ℕ) (v : V) → get_elem? views port ≡ some v → F port v

  -- it holds after a change of one
  pub each_set : (F : ℕ → V → Type 0) (views : List V) (port : ℕ) (w : V) → F port w → ((j : ℕ) (u : V) → j ≢ port → get_elem? views j ≡ some u → F j u) → Each F (set views port w)
  each_set F views port w mine others j u e = ⊎_elim (λ (x : (j ≡ port) × (w ≡ u)). subst (λ (y : ℕ × V). F y.0 y.1) (λ i. (sym x.0 i, x.1 i)) mine)
      (λ (x : (j ≢ port) × (get_elem? views j ≡ some u)). others j u x.0 x.1) (at_set views port j w u e)

  -- and with one more
  pub each_snoc : (F : V → Type 0) (views : List V) (w : V) → Each (λ _. F) views → F w → Each (λ _. F) (views ++ w ∷ [])
  each_snoc F views w old new j u e = ⊎_elim (λ (x : get_elem? views j ≡ some u). old j u x) (λ (x : w ≡ u). subst F x new) (at_snoc views w u j e)
