-- At most one list of rows is the answer.
use Rattle.std.proofs.Common.{◌≡◌, ℕ, inl, inr, List, [], ◌∷◌, refl, sym, ap, ◌∙◌, subst, arith, true≢false}
use Rattle.std.specs.List.{AllByRecursion, Contains}
use Rattle.std.specs.Ordering.{nat_cmp, ordering_then, is_eq}
use Rattle.std.specs.Cmp.{IsTotalOrder, nat_cmp_total, tied_itself}
use Rattle.std.specs.Cmp.Lexicographic.{slice_cmp, lists_total}
use Rattle.std.specs.declared.cmp.Ordering.{Ordering}
use Rattle.std.specs.declared.cmp.Ordering.TheVariants.{Less, Equal, Greater}
use Rattle.mine_model.specs.Answer.{Data, IsAnswer, NamedRow, Rises, ComesBefore}
use Rattle.mine_model.proofs.ListLemmas.{Contains-cases, Contains-first, Contains-other, Contains-none, AllByRecursion-contained}

names_total : IsTotalOrder (slice_cmp (slice_cmp nat_cmp))
names_total = lists_total (lists_total nat_cmp_total)

apart : (r : Ordering) → r ≡ Equal → r ≡ Less → ⊥
apart r e l = true≢false (sym (ap is_eq e) ∙ ap is_eq l)

pub both_equal : (first second : Ordering) → ordering_then first second ≡ Equal → (first ≡ Equal) × (second ≡ Equal)
both_equal Less second e = cc
both_equal Equal second e = (refl, e)
both_equal Greater second e = cc

-- no row comes before itself
pub ComesBefore-irreflexive : (row : NamedRow) → ComesBefore row row → ⊥
ComesBefore-irreflexive row (inl less) = omega arith
ComesBefore-irreflexive row (inr both) = apart _ (tied_itself names_total row.pattern) both.1

pub ComesBefore-chain : (r s t : NamedRow) → ComesBefore r s → ComesBefore s t → ComesBefore r t
ComesBefore-chain r s t (inl p) (inl q) = inl (omega arith)
ComesBefore-chain r s t (inl p) (inr q) = let e : s.support ≡ t.support = q.0 in inl (omega arith)
ComesBefore-chain r s t (inr p) (inl q) = let e : r.support ≡ s.support = p.0 in inl (omega arith)
ComesBefore-chain r s t (inr p) (inr q) = inr (p.0 ∙ q.0, names_total.trans r.pattern s.pattern t.pattern p.1 q.1)

-- what is contained in both orders has the same first row
same_first : (r s : NamedRow) (rs ss : List NamedRow)
    → AllByRecursion (ComesBefore r) rs → AllByRecursion (ComesBefore s) ss
    → Contains (s ∷ ss) r → Contains (r ∷ rs) s → r ≡ s
same_first r s rs ss after_r after_s r_inside s_inside =
    elim (Contains-cases s ss r r_inside) [
      | inl same ↦ same
      | inr later ↦ elim (Contains-cases r rs s s_inside) [
        | inl same ↦ sym same
        | inr later' ↦ absurd (ComesBefore-irreflexive r (ComesBefore-chain r s r
            (AllByRecursion-contained (ComesBefore r) rs s after_r later')
            (AllByRecursion-contained (ComesBefore s) ss r after_s later)))
      ]
    ]

-- a later row of the one list is a later row of the other
later_row : (r s : NamedRow) (rs ss : List NamedRow) → r ≡ s
    → AllByRecursion (ComesBefore r) rs → (t : NamedRow) → Contains rs t → Contains (s ∷ ss) t → Contains ss t
later_row r s rs ss same after t inside both =
    elim (Contains-cases s ss t both) [
      | inl first ↦ absurd (ComesBefore-irreflexive r (subst (ComesBefore r) (first ∙ sym same) (AllByRecursion-contained (ComesBefore r) rs t after inside)))
      | inr later ↦ later
    ]

-- two rising lists with the same rows are one list
pub Rises-unique : (rs ss : List NamedRow) → Rises rs → Rises ss
    → ((t : NamedRow) → Contains rs t → Contains ss t) → ((t : NamedRow) → Contains ss t → Contains rs t) → rs ≡ ss
Rises-unique [] [] p q there back = refl
Rises-unique [] (s ∷ ss) p q there back = absurd (Contains-none s (back s (Contains-first s ss)))
Rises-unique (r ∷ rs) [] p q there back = absurd (Contains-none r (there r (Contains-first r rs)))
Rises-unique (r ∷ rs) (s ∷ ss) p q there back =
    let same : r ≡ s = same_first r s rs ss p.0 q.0 (there r (Contains-first r rs)) (back s (Contains-first s ss)) in
    let tails : rs ≡ ss = Rises-unique rs ss p.1 q.1
    (λ t inside. later_row r s rs ss same p.0 t inside (there t (Contains-other r rs t inside)))
    (λ t inside. later_row s r ss rs (sym same) q.0 t inside (back t (Contains-other s ss t inside))) in
    cc

pub IsAnswer-unique : (d : Data (List ℕ)) (rs ss : List NamedRow) → IsAnswer d rs → IsAnswer d ss → rs ≡ ss
IsAnswer-unique d rs ss p q = Rises-unique rs ss p.ordered q.ordered
    (λ t inside. (q.frequent t).1 ((p.frequent t).0 inside))
    (λ t inside. (p.frequent t).1 ((q.frequent t).0 inside))
