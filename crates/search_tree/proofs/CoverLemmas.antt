-- The cover equation has at most one solution.
use Rattle.std.proofs.Common.{◌≡◌, ℕ, zero, suc, ◌+◌, ◌<◌, ◌≤◌, inl, inr, cond, List, [], ◌∷◌, ◌++◌, length, refl, sym, ap, ◌∙◌, arith, sum_by, flat_map, Contains}
use Rattle.std.proofs.Math.Dec.{ltb}
use Rattle.std.proofs.lemmas.Bool.{lt-ltb, le-ltb, cond-true, cond-false, cases_lt}
use Rattle.std.proofs.lemmas.List.{append-nil}
use Rattle.std.proofs.lemmas.List.Sums.{sum_by-cons, sum_by-append}
use Rattle.mine_model.specs.Labels.{SameLabels}
use Rattle.mine_model.proofs.ListLemmas.{Contains-cases, Contains-none}
use Rattle.mine_model.proofs.SumLemmas.{sum_by-flat_map, sum_by-same, sum_by-most, sum_by-none}
use Rattle.search_tree.specs.Cover.{GrowByOne, Covers, Balanced}

-- the weight of the labels that are shorter than n
pub below : ℕ → (List ℕ → ℕ) → List ℕ → ℕ
below n f label = cond (ltb (length label) n) (f label) 0

pub below-is : (n : ℕ) (f : List ℕ → ℕ) (label : List ℕ) → length label < n → below n f label ≡ f label
unfolding below
below-is n f label l = cond-true (ltb (length label) n) (f label) 0 (lt-ltb (length label) n l)

pub below-not : (n : ℕ) (f : List ℕ → ℕ) (label : List ℕ) → n ≤ length label → below n f label ≡ 0
unfolding below
below-not n f label l = cond-false (ltb (length label) n) (f label) 0 (le-ltb (length label) n l)

-- no label of the list is as long
pub reach : List (List ℕ) → ℕ
reach labels = sum_by (λ label. suc (length label)) labels

in_reach : (labels : List (List ℕ)) (label : List ℕ) → Contains labels label → length label < reach labels
unfolding reach
in_reach [] label is = absurd (Contains-none label is)
in_reach (first ∷ rest) label is =
    let whole : sum_by (λ l. suc (length l)) (first ∷ rest) ≡ suc (length first) + sum_by (λ l. suc (length l)) rest = sum_by-cons (λ l. suc (length l)) first rest in
    elim (Contains-cases first rest label is) [
      | inl here ↦ let same : length label ≡ length first = ap length here in omega arith
      | inr there ↦ let less : length label < sum_by (λ l. suc (length l)) rest = in_reach rest label there in omega arith
    ]

all_below : (n : ℕ) (f : List ℕ → ℕ) (labels : List (List ℕ)) → reach labels ≤ n → sum_by (below n f) labels ≡ sum_by f labels
all_below n f labels most = sum_by-same (below n f) f labels (λ label is. let l : length label < reach labels = in_reach labels label is in below-is n f label (omega arith))

below_most : (n : ℕ) (f : List ℕ → ℕ) (labels : List (List ℕ)) → sum_by (below n f) labels ≤ sum_by f labels
below_most n f labels = sum_by-most (below n f) f labels (λ label is. elim (cases_lt (length label) n) [
  | inl short ↦ omega (arith, below-is n f label short)
  | inr long ↦ omega (arith, below-not n f label long)
])

pub kids_weight : (List ℕ → List (List ℕ)) → (List ℕ → ℕ) → List ℕ → ℕ
kids_weight kids f label = sum_by f (kids label)

pub kids-weight : (kids : List ℕ → List (List ℕ)) (weight : List ℕ → ℕ) (label : List ℕ) → sum_by weight (kids label) ≡ kids_weight kids weight label
unfolding kids_weight
kids-weight kids weight label = refl

pub flat-weight : (kids : List ℕ → List (List ℕ)) (weight : List ℕ → ℕ) (labels : List (List ℕ)) → sum_by weight (flat_map kids labels) ≡ sum_by (kids_weight kids weight) labels
unfolding kids_weight
flat-weight kids weight labels = sum_by-flat_map weight kids labels

kids-below : (kids : List ℕ → List (List ℕ)) → GrowByOne kids → (n : ℕ) (f : List ℕ → ℕ) (label : List ℕ) → sum_by (below (suc n) f) (kids label) ≡ below n (kids_weight kids f) label
unfolding kids_weight
kids-below kids grow n f label = elim (cases_lt (length label) n) [
  | inl short ↦ sum_by-same (below (suc n) f) f (kids label) (λ kid is. let l : length kid ≡ suc (length label) = grow label kid is in below-is (suc n) f kid (omega arith))
      ∙ sym (below-is n (kids_weight kids f) label short)
  | inr long ↦ sum_by-none (below (suc n) f) (kids label) (λ kid is. let l : length kid ≡ suc (length label) = grow label kid is in below-not (suc n) f kid (omega arith))
      ∙ sym (below-not n (kids_weight kids f) label long)
]

-- the equation at the labels that are shorter than n + 1
balance-below : (roots : List (List ℕ)) (kids : List ℕ → List (List ℕ)) → GrowByOne kids → (done held : List (List ℕ)) → Balanced roots kids done held
    → (n : ℕ) (f : List ℕ → ℕ) → sum_by (below (suc n) f) (done ++ held) ≡ sum_by (below (suc n) f) roots + sum_by (below n (kids_weight kids f)) done
balance-below roots kids grow done held same n f =
    let whole : sum_by (below (suc n) f) (done ++ held) ≡ sum_by (below (suc n) f) (roots ++ flat_map kids done) = same (below (suc n) f) in
    let apart : sum_by (below (suc n) f) (roots ++ flat_map kids done) ≡ sum_by (below (suc n) f) roots + sum_by (below (suc n) f) (flat_map kids done) = sum_by-append (below (suc n) f) roots (flat_map kids done) in
    let each : sum_by (below (suc n) f) (flat_map kids done) ≡ sum_by (λ label. sum_by (below (suc n) f) (kids label)) done = sum_by-flat_map (below (suc n) f) kids done in
    let shorter : sum_by (λ label. sum_by (below (suc n) f) (kids label)) done ≡ sum_by (below n (kids_weight kids f)) done =
    sum_by-same (λ label. sum_by (below (suc n) f) (kids label)) (below n (kids_weight kids f)) done (λ label is. kids-below kids grow n f label) in
    omega arith

balanced_from_covers : (roots : List (List ℕ)) (kids : List ℕ → List (List ℕ)) (labels : List (List ℕ)) → Covers roots kids labels → Balanced roots kids labels []
balanced_from_covers roots kids labels same = λ weight. ap (λ l. sum_by weight l) (append-nil labels) ∙ same weight

covers-below : (roots : List (List ℕ)) (kids : List ℕ → List (List ℕ)) → GrowByOne kids → (labels : List (List ℕ)) → Covers roots kids labels
    → (n : ℕ) (f : List ℕ → ℕ) → sum_by (below (suc n) f) labels ≡ sum_by (below (suc n) f) roots + sum_by (below n (kids_weight kids f)) labels
covers-below roots kids grow labels same n f =
    ap (λ l. sum_by (below (suc n) f) l) (sym (append-nil labels)) ∙ balance-below roots kids grow labels [] (balanced_from_covers roots kids labels same) n f

-- while there is a solution, what is done and what is held lie in it
within-below : (roots : List (List ℕ)) (kids : List ℕ → List (List ℕ)) → GrowByOne kids → (done held labels : List (List ℕ)) → Balanced roots kids done held → Covers roots kids labels
    → (n : ℕ) (f : List ℕ → ℕ) → sum_by (below n f) (done ++ held) ≤ sum_by (below n f) labels
within-below roots kids grow done held labels balance covers zero f =
    omega (arith, sum_by-none (below 0 f) (done ++ held) (λ label is. below-not 0 f label (omega arith)))
within-below roots kids grow done held labels balance covers (suc n) f =
    omega (
      arith,
      within-below roots kids grow done held labels balance covers n (kids_weight kids f),
      sum_by-append (below n (kids_weight kids f)) done held,
      balance-below roots kids grow done held balance n f,
      covers-below roots kids grow labels covers n f,
    )

pub within_cover : (roots : List (List ℕ)) (kids : List ℕ → List (List ℕ)) → GrowByOne kids → (done held labels : List (List ℕ)) → Balanced roots kids done held → Covers roots kids labels
    → (weight : List ℕ → ℕ) → sum_by weight (done ++ held) ≤ sum_by weight labels
within_cover roots kids grow done held labels balance covers weight =
    let n : ℕ = reach (done ++ held) in
    let a : sum_by (below (reach (done ++ held)) weight) (done ++ held) ≡ sum_by weight (done ++ held) = all_below (reach (done ++ held)) weight (done ++ held) (omega arith) in
    let b : sum_by (below (reach (done ++ held)) weight) (done ++ held) ≤ sum_by (below (reach (done ++ held)) weight) labels = within-below roots kids grow done held labels balance covers (reach (done ++ held)) weight in
    let c : sum_by (below (reach (done ++ held)) weight) labels ≤ sum_by weight labels = below_most (reach (done ++ held)) weight labels in
    omega arith

-- the cover equation has at most one solution
pub at_most_one_cover : (roots : List (List ℕ)) (kids : List ℕ → List (List ℕ)) → GrowByOne kids → (xs ys : List (List ℕ)) → Covers roots kids xs → Covers roots kids ys → SameLabels xs ys
at_most_one_cover roots kids grow xs ys p q = λ weight.
    let a : sum_by weight (xs ++ []) ≤ sum_by weight ys = within_cover roots kids grow xs [] ys (balanced_from_covers roots kids xs p) q weight in
    let b : sum_by weight (ys ++ []) ≤ sum_by weight xs = within_cover roots kids grow ys [] xs (balanced_from_covers roots kids ys q) p weight in
    omega (arith, sum_by-append weight xs [], sum_by-append weight ys [])
