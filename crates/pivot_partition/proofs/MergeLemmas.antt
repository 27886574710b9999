-- The greater ones of each pair.
use Rattle.std.proofs.Common.{◌≡◌, ◌≢◌, ℕ, ◌≤◌, ◌<◌, max, ◌⊎◌, ◌↔◌, inl, inr, List, [], ◌∷◌, ◌++◌, length, get_or, refl, subst, arith, eqb, leb}
use Rattle.std.specs.List.{AllPairs, Contains, filter, dedup}
use Rattle.std.specs.List.Sorted.{IsPermutation, IsSorted}
use Rattle.std.specs.Ordering.{nat_cmp}
use Rattle.std.proofs.lemmas.Bool.{cases_lt, leb-true, le-leb}
use Rattle.std.proofs.lemmas.List.Elements.{Contains-append_left, Contains-append_right, Contains-append_cases}
use Rattle.std.proofs.lemmas.List.Kept.{AllPairs-filter, Contains-dedup_nat, Contains-from_dedup, AllPairs-from_increasing}
use Rattle.std.proofs.lemmas.List.Sorted.{Contains-permutation, IsPermutation-sym}
use Rattle.std.proofs.lemmas.Map.Keys.{IsStrictlyIncreasing-dedup}
use Rattle.mine_model.proofs.ListLemmas.{Contains-cases, Contains-first, Contains-filter, filter-Contains, AllPairs-head}
use Rattle.pivot_partition.specs.Pivots.{IsGreaterOf, HasUpTo}

-- the law: the greater ones are the numbers of either list that have one of each up to them
pub greater-law : (us vs : List ℕ) (w : ℕ) → IsGreaterOf us vs w ↔ ((Contains us w ⊎ Contains vs w) × HasUpTo us w × HasUpTo vs w)
greater-law us vs w = (
  (λ (u, v, first, second, same). (
    elim (cases_lt u v) [
      | inl less ↦ let e : v ≡ w = omega (arith, same, less) in inr (subst (Contains vs) e second)
      | inr over ↦ let e : u ≡ w = omega (arith, same, over) in inl (subst (Contains us) e first)
    ],
    (u, first, omega (arith, same)),
    (v, second, omega (arith, same)),
  )),
  (λ (either, (u, first, low), (v, second, under)). elim either [
    | inl held ↦ (w, v, held, second, omega (arith, under))
    | inr held ↦ (u, w, first, held, omega (arith, low))
  ]),
)

-- a rising list has a number up to w where its first number is
pub first-least : (us : List ℕ) → AllPairs (λ low high. low < high) us → us ≢ [] → (w : ℕ) → HasUpTo us w ↔ get_or us 0 0 ≤ w
first-least [] rising some w = absurd (some refl)
first-least (u ∷ us) rising some w = (
  (λ (x, held, low). elim (Contains-cases u us x held) [
    | inl same ↦ omega (arith, same, low)
    | inr later ↦ let less : u < x = AllPairs-head (λ low high. low < high) u us rising x later in omega (arith, less, low)
  ]),
  (λ low. (u, Contains-first u us, low)),
)

pub some_inside : (us : List ℕ) → us ≢ [] → 0 < length us
some_inside [] some = absurd (some refl)
some_inside (u ∷ us) some = omega arith

-- the program: both lists sorted, each number once, from the greater of the first numbers on
abbrev pub kept : List ℕ → ℕ → List ℕ
kept sorted least = filter (λ x. leb least x) (dedup eqb sorted)

pub merged-rising : (sorted : List ℕ) → IsSorted nat_cmp sorted → (least : ℕ) → AllPairs (λ low high. low < high) (kept sorted least)
merged-rising sorted rises least = AllPairs-filter (λ low high. low < high) (λ x. leb least x) (dedup eqb sorted) (AllPairs-from_increasing (dedup eqb sorted) (IsStrictlyIncreasing-dedup sorted rises))

module _ (us vs sorted : List ℕ) (least : ℕ) (rise : AllPairs (λ low high. low < high) us) (climb : AllPairs (λ low high. low < high) vs) (some : us ≢ []) (other : vs ≢ [])
    (same : IsPermutation (us ++ vs) sorted) (rises : IsSorted nat_cmp sorted) (is : least ≡ max (get_or us 0 0) (get_or vs 0 0)) where
  pub merged-either : (w : ℕ) → Contains (kept sorted least) w ↔ ((Contains us w ⊎ Contains vs w) × HasUpTo us w × HasUpTo vs w)
  merged-either w = (
    (λ held.
        let (in_dedup, passes) = Contains-filter (λ x. leb least x) (dedup eqb sorted) w held in
        let low : least ≤ w = leb-true least w passes in (
          Contains-append_cases us vs w (Contains-permutation sorted (us ++ vs) w (IsPermutation-sym (us ++ vs) sorted same) (Contains-from_dedup eqb sorted w in_dedup)),
          (first-least us rise some w).1 (omega (arith, low, is)),
          (first-least vs climb other w).1 (omega (arith, low, is)),
        )),
    (λ (either, up, upper).
        let one = (first-least us rise some w).0 up in
        let two = (first-least vs climb other w).0 upper in
        let both : Contains (us ++ vs) w = elim either [ inl held ↦ Contains-append_left us vs w held | inr held ↦ Contains-append_right us vs w held ] in
        filter-Contains (λ x. leb least x) (dedup eqb sorted) w (Contains-dedup_nat sorted w (Contains-permutation (us ++ vs) sorted w same both)) (le-leb least w (omega (arith, one, two, is)))),
  )

  pub merged-greater : (w : ℕ) → Contains (kept sorted least) w ↔ IsGreaterOf us vs w
  merged-greater w = ((λ held. (greater-law us vs w).1 ((merged-either w).0 held)), (λ is'. (merged-either w).1 ((greater-law us vs w).0 is')))

-- a list sorted, each number once
pub sorted-once : (found sorted kept' : List ℕ) → IsPermutation found sorted → IsSorted nat_cmp sorted → kept' ≡ dedup eqb sorted
    → AllPairs (λ low high. low < high) kept' × ((x : ℕ) → Contains kept' x ↔ Contains found x)
sorted-once found sorted kept' same rises is = rw is (
  AllPairs-from_increasing (dedup eqb sorted) (IsStrictlyIncreasing-dedup sorted rises),
  λ x. (
    (λ held. Contains-permutation sorted found x (IsPermutation-sym found sorted same) (Contains-from_dedup eqb sorted x held)),
    (λ held. Contains-dedup_nat sorted x (Contains-permutation found sorted x same held)),
  ),
)
