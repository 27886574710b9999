-- Rows, sorted.
use Rattle.std.proofs.Common.{◌≡◌, ◌⊎◌, ◌↔◌, inl, inr, ℕ, List, [], ◌∷◌, refl, sym, ap, ◌∙◌, subst, arith, Contains}
use Rattle.std.specs.Ordering.{nat_cmp, ordering_reverse, is_eq}
use Rattle.std.specs.Cmp.Lexicographic.{slice_cmp}
use Rattle.std.specs.declared.cmp.Ordering.{Ordering}
use Rattle.std.specs.declared.cmp.Ordering.TheVariants.{Less, Equal, Greater}
use Rattle.std.proofs.lemmas.Bool.{cases_lt}
use Rattle.std.proofs.lemmas.Cmp.{lists_total, nat_list_cmp_total}
use Rattle.std.proofs.lemmas.Map.Text.{is_eq-slice_cmp}
use Rattle.std.proofs.lemmas.Slice.Eq.{bytes_eq-Decides}
use Rattle.mine_model.specs.Answer.{NamedRow, ComesBefore, Rises}
use Rattle.mine_model.proofs.ListLemmas.{Contains-cases, Contains-first, Contains-other, AllByRecursion-contained, AllByRecursion-from, AllByRecursion-weaker}
use Rattle.mine_model.proofs.AnswerLemmas.{both_equal, ComesBefore-chain}

-- names that compare as equal are the same
names_same : (names others : List (List ℕ)) → slice_cmp (slice_cmp nat_cmp) names others ≡ Equal → names ≡ others
names_same [] [] e = refl
names_same [] (other ∷ others) e = cc
names_same (name ∷ names) [] e = cc
names_same (name ∷ names) (other ∷ others) e =
    let both = both_equal (slice_cmp nat_cmp name other) (slice_cmp (slice_cmp nat_cmp) names others) e in
    let head : name ≡ other = (bytes_eq-Decides name other).0 (sym (is_eq-slice_cmp name other) ∙ ap is_eq both.0) in
    let tail : names ≡ others = names_same names others both.1 in
    λ i. head i ∷ tail i

same_support : (r s : NamedRow) → r.support ≡ s.support → ComesBefore r s ⊎ ((r ≡ s) ⊎ ComesBefore s r)
same_support r s same = by (slice_cmp (slice_cmp nat_cmp) r.pattern s.pattern) refl
  where
    by : (o : Ordering) → slice_cmp (slice_cmp nat_cmp) r.pattern s.pattern ≡ o → ComesBefore r s ⊎ ((r ≡ s) ⊎ ComesBefore s r)
    by Less e = inl (inr (same, e))
    by Equal e = let names : r.pattern ≡ s.pattern = names_same r.pattern s.pattern e in
        inr (inl (λ i. record { pattern = names i; support = same i }))
    by Greater e = inr (inr (inr (sym same, (lists_total nat_list_cmp_total).antisymm s.pattern r.pattern ∙ ap ordering_reverse e)))

-- of two rows one comes before the other, or they are the same
pub ComesBefore-cases : (r s : NamedRow) → ComesBefore r s ⊎ ((r ≡ s) ⊎ ComesBefore s r)
ComesBefore-cases r s = elim (cases_lt s.support r.support) [
  | inl less ↦ inl (inl less)
  | inr least ↦ elim (cases_lt r.support s.support) [
    | inl more ↦ inr (inr (inl more))
    | inr most ↦ same_support r s (omega (arith, least, most))
  ]
]

-- the same rows in order, each once
pub record IsSorted (rows sorted : List NamedRow) : Type 0 where
  pub ordered : Rises sorted
  pub exact : (row : NamedRow) → Contains sorted row ↔ Contains rows row

-- one more row in its place
inserted : (row : NamedRow) (rows : List NamedRow) → Rises rows → (sorted : List NamedRow) × IsSorted (row ∷ rows) sorted
inserted row [] rises = (row ∷ [], record { ordered = (tt, tt); exact = λ other. (λ held. held, λ held. held) })
inserted row (first ∷ rows) rises = by (ComesBefore-cases row first) (inserted row rows rises.1)
  where
    by : ComesBefore row first ⊎ ((row ≡ first) ⊎ ComesBefore first row)
        → (sorted : List NamedRow) × IsSorted (row ∷ rows) sorted → (sorted : List NamedRow) × IsSorted (row ∷ first ∷ rows) sorted
    by (inl before) rest = (
      row ∷ first ∷ rows,
      record {
        ordered = (
          (before, AllByRecursion-weaker (ComesBefore first) (ComesBefore row) (λ other after. ComesBefore-chain row first other before after) rows rises.0),
          rises,
        );
        exact = λ other. (λ held. held, λ held. held);
      },
    )
    by (inr (inl same)) rest = (
      first ∷ rows,
      record {
        ordered = rises;
        exact = λ other. (
          λ held. Contains-other row (first ∷ rows) other held,
          λ held. elim (Contains-cases row (first ∷ rows) other held) [
            | inl is ↦ subst (Contains (first ∷ rows)) (sym (is ∙ same)) (Contains-first first rows)
            | inr later ↦ later
          ],
        );
      },
    )
    by (inr (inr after)) (sorted, is) = (
      first ∷ sorted,
      record {
        ordered = (AllByRecursion-from (ComesBefore first) sorted (λ other held. behind other ((is.exact other).0 held)), is.ordered);
        exact = λ other. (λ held. forth other (Contains-cases first sorted other held), λ held. back other (Contains-cases row (first ∷ rows) other held));
      },
    )
      where
        behind : (other : NamedRow) → Contains (row ∷ rows) other → ComesBefore first other
        behind other held = elim (Contains-cases row rows other held) [
          | inl same ↦ subst (ComesBefore first) (sym same) after
          | inr later ↦ AllByRecursion-contained (ComesBefore first) rows other rises.0 later
        ]

        forth : (other : NamedRow) → (other ≡ first) ⊎ Contains sorted other → Contains (row ∷ first ∷ rows) other
        forth other (inl same) = Contains-other row (first ∷ rows) other (subst (Contains (first ∷ rows)) (sym same) (Contains-first first rows))
        forth other (inr held) = elim (Contains-cases row rows other ((is.exact other).0 held)) [
          | inl same ↦ subst (Contains (row ∷ first ∷ rows)) (sym same) (Contains-first row (first ∷ rows))
          | inr later ↦ Contains-other row (first ∷ rows) other (Contains-other first rows other later)
        ]

        back : (other : NamedRow) → (other ≡ row) ⊎ Contains (first ∷ rows) other → Contains (first ∷ sorted) other
        back other (inl same) = Contains-other first sorted other ((is.exact other).1 (subst (Contains (row ∷ rows)) (sym same) (Contains-first row rows)))
        back other (inr held) = elim (Contains-cases first rows other held) [
          | inl same ↦ subst (Contains (first ∷ sorted)) (sym same) (Contains-first first sorted)
          | inr later ↦ Contains-other first sorted other ((is.exact other).1 (Contains-other row rows other later))
        ]

pub sorted-rows : (rows : List NamedRow) → (sorted : List NamedRow) × IsSorted rows sorted
sorted-rows [] = ([], record { ordered = tt; exact = λ row. (λ held. held, λ held. held) })
sorted-rows (row ∷ rows) =
    let (sorted, is) = sorted-rows rows in
    let (all, are) = inserted row sorted is.ordered in (
      all,
      record {
        ordered = are.ordered;
        exact = λ other. (
          λ held. over other sorted rows (λ held. (is.exact other).0 held) ((are.exact other).0 held),
          λ held. (are.exact other).1 (over other rows sorted (λ held. (is.exact other).1 held) held),
        );
      },
    )
  where
    over : (other : NamedRow) (some more : List NamedRow) → (Contains some other → Contains more other)
        → Contains (row ∷ some) other → Contains (row ∷ more) other
    over other some more within held = elim (Contains-cases row some other held) [
      | inl same ↦ subst (Contains (row ∷ more)) (sym same) (Contains-first row more)
      | inr later ↦ Contains-other row more other (within later)
    ]
