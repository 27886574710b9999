-- The frequent items, and that they come one before the other once they are sorted.
use Rattle.std.proofs.Common.{◌≡◌, ◌≢◌, ℕ, ◌+◌, ◌≤◌, ◌<◌, ◌↔◌, false, List, [], ◌∷◌, ◌++◌, length, get_or, refl, sym, ap, ◌∙◌, subst, inl, inr, arith, true≢false}
use Rattle.std.specs.List.{All, AllPairs, Contains, slice_index}
use Rattle.std.specs.List.Sorted.{IsPermutation, IsSortedBy}
use Rattle.std.specs.Cmp.{IsTotalOrder}
use Rattle.std.specs.Cmp.Lexicographic.{slice_cmp}
use Rattle.std.specs.Ordering.{nat_cmp, ordering_then, ordering_reverse, is_lt, is_eq, MatchOrdering}
use Rattle.std.specs.declared.cmp.Ordering.{Ordering}
use Rattle.std.specs.declared.cmp.Ordering.TheVariants.{Less, Equal, Greater}
use Rattle.std.proofs.lemmas.Bool.{cases_eq}
use Rattle.std.proofs.lemmas.Cmp.{nat_cmp_total, then_total, back_total, on_total, nat_list_cmp_total, ranked}
use Rattle.std.proofs.lemmas.List.MinMax.{ranks_by}
use Rattle.std.proofs.lemmas.List.Elements.{Contains-append_cases, Contains-append_left, Contains-append_right}
use Rattle.std.proofs.lemmas.List.Sorted.{All-permutation, sorted_far}
use Rattle.std.proofs.lemmas.Map.Text.{is_eq-slice_cmp}
use Rattle.std.proofs.lemmas.Slice.Eq.{bytes_eq-Decides}
use Rattle.mine_model.specs.declared.item.Item.{Item}
use Rattle.mine_model.specs.Ancestry.{item_at}
use Rattle.mine_model.specs.Names.{name_of, HasName, AreDistinct}
use Rattle.mine_model.proofs.ListLemmas.{Contains-cases, Contains-first, Contains-none, AllPairs-append}
use Rattle.mine_model.proofs.AncestryLemmas.{Item-same}
use Rattle.mine_model.proofs.ApartLemmas.{item_eq-Decides, apart_by_permutation}
use Rattle.frequency_list.specs.Order.{item_cmp, ComesBefore}

-- Which items are frequent

-- the items with numbers below the count whose frequency reaches the threshold
abbrev pub AreFrequentBelow : ℕ → ℕ → List ℕ → List Item → Type 0
AreFrequentBelow count threshold frequencies items =
    (w : Item) → Contains items w ↔ ((w.0 < count) × (threshold ≤ slice_index frequencies w.0))

module _ (threshold : ℕ) (frequencies : List ℕ) (n : ℕ) (items : List Item) (are : AreFrequentBelow n threshold frequencies items) where
  pub frequent-more : threshold ≤ slice_index frequencies n → AreFrequentBelow (n + 1) threshold frequencies (items ++ item_at n ∷ [])
  frequent-more enough w = (
    λ held. (elim (Contains-append_cases items (item_at n ∷ []) w held) [
      | inl earlier ↦ let both = (are w).0 earlier in (omega (arith, both.0), both.1)
      | inr last ↦ elim (Contains-cases (item_at n) [] w last) [
        | inl same ↦ let e : w.0 ≡ n = ap (λ (v : Item). v.0) same in (omega arith, subst (λ k. threshold ≤ slice_index frequencies k) (sym e) enough)
        | inr no' ↦ absurd (Contains-none w no')
      ]
    ]),
    λ both. (elim (cases_eq w.0 n) [
      | inl same ↦ Contains-append_right items (item_at n ∷ []) w (subst (λ v. Contains (item_at n ∷ []) v) (sym (Item-same w (item_at n) same)) (Contains-first (item_at n) []))
      | inr other ↦ Contains-append_left items (item_at n ∷ []) w ((are w).1 (omega (arith, both.0), both.1))
    ]),
  )

  pub frequent-skip : slice_index frequencies n < threshold → AreFrequentBelow (n + 1) threshold frequencies items
  frequent-skip few w = (
    λ held. (let both = (are w).0 held in (omega (arith, both.0), both.1)),
    λ both. (elim (cases_eq w.0 n) [
      | inl same ↦ let e : slice_index frequencies w.0 ≡ slice_index frequencies n = ap (slice_index frequencies) same in absurd (omega (arith, both.1, e, few))
      | inr other ↦ (are w).1 (omega (arith, both.0), both.1)
    ]),
  )

  pub rises-more : AllPairs (λ v w. v.0 < w.0) items → AllPairs (λ v w. v.0 < w.0) (items ++ item_at n ∷ [])
  rises-more rises =
      AllPairs-append (λ v w. v.0 < w.0) items (item_at n ∷ []) rises (λ i j d less within. absurd (omega arith))
      (λ v w held last. elim (Contains-cases (item_at n) [] w last) [
        | inl same ↦ let e : w.0 ≡ n = ap (λ (v : Item). v.0) same in let below = ((are v).0 held).0 in omega (arith, below)
        | inr no' ↦ absurd (Contains-none w no')
      ])

-- Their order

pub item_cmp_total : (frequencies : List ℕ) (names : List (List ℕ)) → IsTotalOrder (item_cmp frequencies names)
item_cmp_total frequencies names =
    then_total (back_total (on_total (λ (w : Item). slice_index frequencies w.0) nat_cmp_total)) (on_total (name_of names) nat_list_cmp_total)

rising_differ : (items : List Item) → AllPairs (λ v w. v.0 < w.0) items → AllPairs (λ v w. v ≢ w) items
rising_differ items rises i j d less within same =
    let below = rises i j d less within in let e = ap (λ (v : Item). v.0) same in omega (arith, below, e)

module _ (frequencies : List ℕ) (names : List (List ℕ)) (distinct : AreDistinct names) where
  -- of two items that differ the one that does not come later in the order comes before the other
  comes_before : (v w : Item) → HasName names v → HasName names w → v ≢ w → is_lt (item_cmp frequencies names w v) ≡ false → ComesBefore frequencies names v w
  comes_before v w in_v in_w differ not_less =
      by (nat_cmp (slice_index frequencies v.0) (slice_index frequencies w.0)) refl
      (ranked (slice_index frequencies v.0) (slice_index frequencies w.0) (nat_cmp (slice_index frequencies v.0) (slice_index frequencies w.0)) refl)
    where
      by_name : (o : Ordering) → slice_cmp nat_cmp (name_of names w) (name_of names v) ≡ o → is_lt o ≡ false → slice_cmp nat_cmp (name_of names v) (name_of names w) ≡ Less
      by_name Less e not_less = absurd (true≢false not_less)
      by_name Equal e not_less =
          let same_name : name_of names w ≡ name_of names v =
          (bytes_eq-Decides (name_of names w) (name_of names v)).0 (sym (is_eq-slice_cmp (name_of names w) (name_of names v)) ∙ ap is_eq e) in
          absurd (differ (sym (Item-same w v (distinct w.0 v.0 in_w in_v same_name))))
      by_name Greater e not_less = nat_list_cmp_total.antisymm (name_of names v) (name_of names w) ∙ ap ordering_reverse e

      by : (o : Ordering) → nat_cmp (slice_index frequencies v.0) (slice_index frequencies w.0) ≡ o
          → MatchOrdering o (slice_index frequencies v.0 < slice_index frequencies w.0) (slice_index frequencies v.0 ≡ slice_index frequencies w.0) (slice_index frequencies w.0 < slice_index frequencies v.0)
          → ComesBefore frequencies names v w
      by Less e less =
          absurd (true≢false (ap (λ o. is_lt (ordering_then o (slice_cmp nat_cmp (name_of names w) (name_of names v)))) (sym e) ∙ not_less))
      by Equal e equal =
          let rest : is_lt (slice_cmp nat_cmp (name_of names w) (name_of names v)) ≡ false =
          ap (λ o. is_lt (ordering_then o (slice_cmp nat_cmp (name_of names w) (name_of names v)))) (sym e) ∙ not_less in
          inr (equal, by_name (slice_cmp nat_cmp (name_of names w) (name_of names v)) refl rest)
      by Greater e greater = inl greater

  -- sorted items come one before the other
  pub ComesBefore-from_sort : (old new : List Item) → All (HasName names) old → AllPairs (λ v w. v.0 < w.0) old → IsPermutation old new
      → IsSortedBy (λ v w. is_lt (item_cmp frequencies names v w)) new → AllPairs (ComesBefore frequencies names) new
  ComesBefore-from_sort old new named rises moved sorted i j d less within =
      let named_new : All (HasName names) new = All-permutation (HasName names) old new moved named in
      let apart = apart_by_permutation item_eq-Decides old new moved (rising_differ old rises) in
      let i_within : i < length new = omega arith in
      let not_less = sorted_far (λ v w. is_lt (item_cmp frequencies names v w)) (ranks_by (item_cmp_total frequencies names) (λ (v : Item). v)) new sorted i j d (omega arith) within in
      comes_before (get_or new i d) (get_or new j d) (named_new i d i_within) (named_new j d within) (apart i j d less within) not_less
