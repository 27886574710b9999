-- The order of lists of ranks.
use Rattle.std.proofs.Common.{◌≡◌, ℕ, ◌<◌, Bool, true, false, ◌⊎◌, inl, inr, List, [], ◌∷◌, ◌++◌, refl, sym, ap, ◌∙◌, subst, true≢false}
use Rattle.std.specs.Ordering.{nat_cmp, ordering_reverse, ordering_then, is_eq}
use Rattle.std.specs.Cmp.{nat_cmp_is}
use Rattle.std.specs.Cmp.Lexicographic.{slice_cmp}
use Rattle.std.specs.FinMap.{slice_cmp-IsAntisymmetric, nat_cmp-IsAntisymmetric}
use Rattle.std.specs.declared.cmp.Ordering.{Ordering}
use Rattle.std.specs.declared.cmp.Ordering.TheVariants.{Less, Equal, Greater}
use Rattle.std.proofs.lemmas.Cmp.{nat_list_cmp_total, tied_itself}
use Rattle.mine_model.specs.Lists.{IsEarlier}

pub earlier-itself : (xs : List ℕ) → IsEarlier xs xs → ⊥
earlier-itself xs less =
    let tied : slice_cmp nat_cmp xs xs ≡ Equal = tied_itself nat_list_cmp_total xs in
    true≢false (sym (ap is_eq tied) ∙ ap is_eq less)

pub earlier-chain : (xs ys zs : List ℕ) → IsEarlier xs ys → IsEarlier ys zs → IsEarlier xs zs
earlier-chain xs ys zs p q = nat_list_cmp_total.trans xs ys zs p q

pub earlier-both : (xs ys : List ℕ) → IsEarlier xs ys → IsEarlier ys xs → ⊥
earlier-both xs ys p q = earlier-itself xs (earlier-chain xs ys xs p q)

-- of two lists one comes earlier, or they are one
pub earlier-cases : (xs ys : List ℕ) → IsEarlier xs ys ⊎ ((xs ≡ ys) ⊎ IsEarlier ys xs)
earlier-cases xs ys =
    elim (slice_cmp nat_cmp xs ys) as (λ (r : Ordering). slice_cmp nat_cmp xs ys ≡ r → IsEarlier xs ys ⊎ ((xs ≡ ys) ⊎ IsEarlier ys xs)) [
      | Less ↦ λ e. inl e
      | Equal ↦ λ e. inr (inl (slice_cmp-IsAntisymmetric nat_cmp-IsAntisymmetric xs ys e))
      | Greater ↦ λ e. inr (inr (nat_list_cmp_total.antisymm ys xs ∙ ap ordering_reverse e))
    ] refl

-- nothing comes before the empty list
pub earlier-none : (xs : List ℕ) → IsEarlier xs [] → ⊥
earlier-none [] less = earlier-itself [] less
earlier-none (x ∷ xs) less = true≢false (sym (ap is_greater {x = Greater} {y = Less} less))
  where
    is_greater : Ordering → Bool
    is_greater Less = true
    is_greater Equal = true
    is_greater Greater = false

-- The order of prefixes

same-first : (x : ℕ) (xs ys : List ℕ) → IsEarlier xs ys → IsEarlier (x ∷ xs) (x ∷ ys)
same-first x xs ys e = subst (λ (o : Ordering). ordering_then o (slice_cmp nat_cmp xs ys) ≡ Less) (nat_cmp_is x x Equal refl) e

-- a list comes before all that go on from it
pub prefix-earlier : (q : List ℕ) (w : ℕ) (more : List ℕ) → IsEarlier q (q ++ w ∷ more)
prefix-earlier [] w more = refl
prefix-earlier (x ∷ q) w more = same-first x q (q ++ w ∷ more) (prefix-earlier q w more)

-- the first rank that differs decides
pub branch-earlier : (q : List ℕ) (w v : ℕ) (more others : List ℕ) → w < v → IsEarlier (q ++ w ∷ more) (q ++ v ∷ others)
branch-earlier [] w v more others less =
    subst (λ (o : Ordering). ordering_then o (slice_cmp nat_cmp more others) ≡ Less) (nat_cmp_is w v Less less) refl
branch-earlier (x ∷ q) w v more others less = same-first x (q ++ w ∷ more) (q ++ v ∷ others) (branch-earlier q w v more others less)
