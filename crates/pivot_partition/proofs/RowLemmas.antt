-- Rows, state after state.
use Rattle.std.proofs.Common.{◌≡◌, ℕ, ◌+◌, ◌<◌, ◌≤◌, ◌↔◌, inl, inr, List, [], ◌∷◌, ◌++◌, length, set, refl, sym, ap, ◌∙◌, subst, arith}
use Rattle.std.specs.List.{slice_index}
use Rattle.std.proofs.lemmas.Bool.{cases_eq}
use Rattle.std.proofs.lemmas.List.{append_assoc, append-nil, get_or-set_same, get_or-set_other, get_or_append_left, get_or_push, length_push}
use Rattle.pivot_partition.specs.Tops.{no_rank}

module _ (Says : ℕ → ℕ → Type 0) where
  -- the row says of the states below the count up to which rank they do something
  abbrev pub IsRowSoFar : List ℕ → List ℕ → ℕ → Type 0
  IsRowSoFar before table count = (row : List ℕ) × (table ≡ before ++ row) × (length row ≡ count)
      × ((state p : ℕ) → state < count → p < no_rank → slice_index row state ≤ p ↔ Says state p)

  pub row-none : (before : List ℕ) → IsRowSoFar before before 0
  row-none before = ([], sym (append-nil before), refl, λ state p less below. absurd (omega (arith, less)))

  pub row-more : (before table after : List ℕ) (count top : ℕ) → after ≡ table ++ top ∷ [] → ((p : ℕ) → p < no_rank → top ≤ p ↔ Says count p)
      → IsRowSoFar before table count → IsRowSoFar before after (count + 1)
  row-more before table after count top longer says (row, is, long, each) = (
    row ++ top ∷ [],
    longer ∙ ap (λ l. l ++ top ∷ []) is ∙ append_assoc before row (top ∷ []),
    length_push row top ∙ ap (λ n. n + 1) long,
    λ state p less below. elim (cases_eq state count) [
      | inl same ↦
          let at : slice_index (row ++ top ∷ []) state ≡ top = get_or_push row top 0 state (long ∙ sym same) in
          rw at (subst (λ s. top ≤ p ↔ Says s p) (sym same) (says p below))
      | inr other ↦
          let at : slice_index (row ++ top ∷ []) state ≡ slice_index row state = get_or_append_left row (top ∷ []) 0 state (omega (arith, less, other, long)) in
          rw at (each state p (omega (arith, less, other)) below)
    ],
  )

  -- the same of a row that is written over
  abbrev pub IsWrittenSoFar : List ℕ → ℕ → Type 0
  IsWrittenSoFar row count = (state p : ℕ) → 1 ≤ state → state < count → p < no_rank → slice_index row state ≤ p ↔ Says state p

  pub written-none : (tops : List ℕ) → IsWrittenSoFar tops 1
  written-none tops = λ state p least less below. absurd (omega (arith, least, less))

  pub written-more : (row : List ℕ) (count top : ℕ) → count < length row → ((p : ℕ) → p < no_rank → top ≤ p ↔ Says count p) → IsWrittenSoFar row count → IsWrittenSoFar (set row count top) (count + 1)
  written-more row count top inside says each = λ state p least less below. elim (cases_eq state count) [
    | inl same ↦
        let at : slice_index (set row count top) state ≡ top = subst (λ s. slice_index (set row count top) s ≡ top) (sym same) (get_or-set_same row count top 0 inside) in
        rw at (subst (λ s. top ≤ p ↔ Says s p) (sym same) (says p below))
    | inr other ↦
        let at : slice_index (set row count top) state ≡ slice_index row state = get_or-set_other row count state top 0 other in
        rw at (each state p least (omega (arith, less, other)) below)
  ]
