-- The least over a list, element after element.
use Rattle.std.proofs.Common.{◌≡◌, ℕ, ◌+◌, ◌<◌, ◌≤◌, ◌↔◌, inl, inr, min, List, [], ◌∷◌, ◌++◌, length, get_or, take, sym, subst, arith}
use Rattle.std.specs.List.{Contains}
use Rattle.std.proofs.lemmas.List.{take_more, take_all}
use Rattle.std.proofs.lemmas.List.Elements.{Contains-append_left, Contains-push, Contains-push_cases}
use Rattle.std.proofs.lemmas.Bool.{cases_lt}
use Rattle.mine_model.proofs.ListLemmas.{Contains-none}
use Rattle.pivot_partition.specs.Tops.{no_rank}

module _ {X : Type 0} (f : X → ℕ) where
  -- the number is the least that the function has on the list, or stands for none
  abbrev pub IsLeastBy : List X → ℕ → Type 0
  IsLeastBy xs least = (p : ℕ) → p < no_rank → (least ≤ p) ↔ ((x : X) × Contains xs x × (f x ≤ p))

  pub least-none : (least : ℕ) → least ≡ no_rank → IsLeastBy [] least
  least-none least none = λ p below. (
    (λ low. absurd (omega (arith, low, below, none))),
    (λ (x, held, low). absurd (Contains-none x held)),
  )

  pub least-more : (xs : List X) (i least new : ℕ) (x d : X) → i < length xs → x ≡ get_or xs i d → new ≡ min least (f x) → IsLeastBy (take i xs) least → IsLeastBy (take (i + 1) xs) new
  least-more xs i least new x d inside at is before = λ p below.
      let old = before p below in
      let front : take (i + 1) xs ≡ take i xs ++ x ∷ [] = subst (λ (y : X). take (i + 1) xs ≡ take i xs ++ y ∷ []) (sym at) (take_more xs i d inside) in
      rw front (
        (λ low. elim (cases_lt p least) [
          | inl over ↦ (x, Contains-push (take i xs) x, omega (arith, low, over, is))
          | inr under ↦ let (y, held, low2) = old.0 under in (y, Contains-append_left (take i xs) (x ∷ []) y held, low2)
        ]),
        (λ (y, held, low). elim (Contains-push_cases (take i xs) x y held) [
          | inl here ↦ let under : least ≤ p = old.1 (y, here, low) in omega (arith, under, is)
          | inr same ↦ let under : f x ≤ p = subst (λ (z : X). f z ≤ p) (sym same) low in omega (arith, under, is)
        ]),
      )

  pub least-all : (xs : List X) (i least : ℕ) → length xs ≤ i → IsLeastBy (take i xs) least → IsLeastBy xs least
  least-all xs i least over is = subst (λ (ys : List X). IsLeastBy ys least) (take_all i xs over) is
