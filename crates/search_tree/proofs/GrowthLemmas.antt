-- Kids that extend their parent by one number each are such a tree.
use Rattle.std.proofs.Common.{◌≡◌, ℕ, suc, ◌+◌, ◌≤◌, inl, inr, false, List, [], ◌∷◌, ◌++◌, map, length, sym, ap, ◌∙◌, subst, arith, sum_by, Contains, true≢false}
use Rattle.std.specs.List.{IsDistinct, AllByRecursion}
use Rattle.std.proofs.Math.Dec.{eqb}
use Rattle.std.proofs.lemmas.Bool.{eq-eqb}
use Rattle.std.proofs.lemmas.List.{same_from_push, length_push}
use Rattle.std.proofs.lemmas.List.Sums.{sum_by-cons}
use Rattle.mine_model.proofs.ListLemmas.{Contains-cases, Contains-first, Contains-other, Contains-none}
use Rattle.search_tree.specs.Cover.{GrowByOne, AreApart}
use Rattle.mine_model.specs.Labels.{IsOnce}
use Rattle.mine_model.proofs.OnceLemmas.{one, times-one, one-cases, one-found, one-most}

-- the label with each of the ranks behind it
abbrev pub kids_of : (List ℕ → List ℕ) → List ℕ → List (List ℕ)
kids_of ranks label = map (λ rank. label ++ rank ∷ []) (ranks label)

map-cases : (label ranks kid : List ℕ) → Contains (map (λ rank. label ++ rank ∷ []) ranks) kid → (rank : ℕ) × Contains ranks rank × (kid ≡ label ++ rank ∷ [])
map-cases label [] kid is = absurd (Contains-none kid is)
map-cases label (r ∷ ranks) kid is = elim (Contains-cases (label ++ r ∷ []) (map (λ rank. label ++ rank ∷ []) ranks) kid is) [
  | inl here ↦ (r, Contains-first r ranks, here)
  | inr there ↦ let (rank, held, same) = map-cases label ranks kid there in (rank, Contains-other r ranks rank held, same)
]

kids-cases : (ranks : List ℕ → List ℕ) (label kid : List ℕ) → Contains (kids_of ranks label) kid → (rank : ℕ) × Contains (ranks label) rank × (kid ≡ label ++ rank ∷ [])
kids-cases ranks label kid is = map-cases label (ranks label) kid is

pub kids_grow : (ranks : List ℕ → List ℕ) → GrowByOne (kids_of ranks)
kids_grow ranks label kid is =
    let (rank, held, same) = kids-cases ranks label kid is in
    let long : length kid ≡ length (label ++ rank ∷ []) = ap length same in
    omega (arith, length_push label rank)

all-other : (rank : ℕ) (ranks : List ℕ) → AllByRecursion (λ y. eqb rank y ≡ false) ranks → Contains ranks rank → ⊥
all-other rank [] all is = Contains-none rank is
all-other rank (r ∷ ranks) all is = elim (Contains-cases r ranks rank is) [
  | inl here ↦ true≢false (sym (eq-eqb rank r here) ∙ all.0)
  | inr there ↦ all-other rank ranks all.1 there
]

map-once : (label ranks kid : List ℕ) → IsDistinct eqb ranks → sum_by (one kid) (map (λ rank. label ++ rank ∷ []) ranks) ≤ 1
unfolding IsDistinct
map-once label [] kid apart = omega arith
map-once label (r ∷ ranks) kid apart =
    let whole : sum_by (one kid) (map (λ rank. label ++ rank ∷ []) (r ∷ ranks)) ≡ one kid (label ++ r ∷ []) + sum_by (one kid) (map (λ rank. label ++ rank ∷ []) ranks) =
    sum_by-cons (one kid) (label ++ r ∷ []) (map (λ rank. label ++ rank ∷ []) ranks) in
    let rest : sum_by (one kid) (map (λ rank. label ++ rank ∷ []) ranks) ≤ 1 = map-once label ranks kid apart.1 in
    elim (one-cases kid (label ++ r ∷ [])) [
      | inr none ↦ omega arith
      | inl same ↦ elim (one-found kid (map (λ rank. label ++ rank ∷ []) ranks)) [
        | inr none ↦ omega (arith, one-most kid (label ++ r ∷ []))
        | inl there ↦
            let (rank, held, is) = map-cases label ranks kid there in
            let equal : r ≡ rank = (same_from_push label label r rank (sym same ∙ is)).1 in
            absurd (all-other r ranks apart.0 (subst (Contains ranks) (sym equal) held))
      ]
    ]

not-empty-parent : (ranks : List ℕ → List ℕ) → ranks [] ≡ [] → (parent kid : List ℕ) → Contains (kids_of ranks parent) kid → length kid ≡ 1 → ⊥
not-empty-parent ranks none [] kid is short =
    let (rank, held, same) = kids-cases ranks [] kid is in Contains-none rank (subst (λ (l : List ℕ). Contains l rank) none held)
not-empty-parent ranks none (x ∷ parent) kid is short =
    let long : length kid ≡ suc (suc (length parent)) = kids_grow ranks (x ∷ parent) kid is in absurd (omega arith)

pub kids_apart : (roots : List (List ℕ)) (ranks : List ℕ → List ℕ) → IsOnce roots → ((root : List ℕ) → Contains roots root → length root ≡ 1) → ranks [] ≡ [] → ((label : List ℕ) → IsDistinct eqb (ranks label))
    → AreApart roots (kids_of ranks)
kids_apart roots ranks once short none distinct = record {
  once_roots = once;
  once_kids = λ parent kid. omega (arith, times-one kid (kids_of ranks parent), map-once parent (ranks parent) kid (distinct parent));
  one_parent = λ parent other kid is also.
      let (rank, held, same) = kids-cases ranks parent kid is in
      let (rank2, held2, same2) = kids-cases ranks other kid also in
      (same_from_push parent other rank rank2 (sym same ∙ same2)).0;
  no_parent = λ parent root is kid. not-empty-parent ranks none parent root kid (short root is);
}
