-- There is an answer: the patterns of all sequences with their supports, the frequent ones of them in order.
use Rattle.std.proofs.Common.{◌≡◌, ◌≢◌, ◌+◌, ℕ, ◌≤◌, inl, inr, List, [], ◌∷◌, refl, sym, subst, arith, Contains}
use Rattle.std.proofs.lemmas.Bool.{cases_lt}
use Rattle.mine_model.specs.Generation.{IsPatternOf}
use Rattle.mine_model.specs.Support.{Sequence, Counts, HasSupport}
use Rattle.mine_model.specs.Answer.{Data, IsFrequent, NamedRow, IsAnswer}
use Rattle.mine_model.proofs.OnceLemmas.{same_list_or_not}
use Rattle.mine_model.proofs.SupportLemmas.{Counts-unique}
use Rattle.mine_model.proofs.AliveLemmas.{WeighAtLeast-counted, WeighAtLeast-some}
use Rattle.answer_laws.proofs.ListingLemmas.{Decided, decided-not, decided-both, IsDiscrete, lists-discrete, Listing, listing-decides, listing-like, listing-one, listing-list, listing-where, listing-from}
use Rattle.answer_laws.proofs.OutputLemmas.{patterns}
use Rattle.answer_laws.proofs.SortLemmas.{sorted-rows}

-- what is decided of each sequence is counted
pub counted : {A : Type 0} (Has : List A → Type 0) → ((items : List A) → Decided (Has items)) → (sequences : List (Sequence A))
    → (n : ℕ) × Counts Has sequences n
counted Has decided [] = (0, refl)
counted Has decided (s ∷ sequences) = by (decided s.items) (counted Has decided sequences)
  where
    by : Decided (Has s.items) → (n : ℕ) × Counts Has sequences n → (n : ℕ) × Counts Has (s ∷ sequences) n
    by (inl has) (n, count) = (s.weight + n, inl (has, (n, refl, count)))
    by (inr never) (n, count) = (n, inr (never, count))

counted-some : {A : Type 0} (Has : List A → Type 0) (sequences : List (Sequence A)) (n : ℕ) → Counts Has sequences n → 1 ≤ n
    → (s : Sequence A) × Contains sequences s × Has s.items
counted-some Has sequences n count some =
    WeighAtLeast-some Has sequences n some ((WeighAtLeast-counted Has sequences n n count).1 (omega arith))

-- each pattern has a support
pub supported : {A : Type 0} → IsDiscrete A → (d : Data A) (pattern : List A) → (n : ℕ) × HasSupport d.links d.expression d.sequences pattern n
supported {A} discrete d pattern =
    counted (λ items. IsPatternOf d.links d.expression items pattern)
    (λ items. listing-decides (lists-discrete A discrete) (IsPatternOf d.links d.expression items) (patterns discrete d.links d.expression items) pattern) d.sequences

module _ (d : Data (List ℕ)) where
  -- a sequence has the pattern
  abbrev IsCandidate : List (List ℕ) → Type 0
  IsCandidate pattern = (s : Sequence (List ℕ)) × Contains d.sequences s × IsPatternOf d.links d.expression s.items pattern

  candidates : Listing IsCandidate
  candidates = listing-from (Contains d.sequences) (λ s pattern. IsPatternOf d.links d.expression s.items pattern) (listing-list d.sequences)
      (λ s. patterns same_list_or_not d.links d.expression s.items)

  -- the row of this pattern, if it is frequent
  abbrev IsRowOf : List (List ℕ) → NamedRow → Type 0
  IsRowOf pattern row = (row.pattern ≡ pattern) × IsFrequent d row.pattern row.support

  -- its support is enough or it is not
  reaches : (n : ℕ) → Decided (d.threshold ≤ n)
  reaches n = elim (cases_lt n d.threshold) [ inl less ↦ inr (λ more. omega (arith, less, more)) | inr more ↦ inl more ]

  module _ (pattern : List (List ℕ)) (n : ℕ) (exact : HasSupport d.links d.expression d.sequences pattern n) where
    abbrev made : NamedRow
    made = record { pattern = pattern; support = n }

    abbrev IsEnough : Type 0
    IsEnough = (pattern ≢ []) × (d.threshold ≤ n)

    forth : (row : NamedRow) → IsEnough × (row ≡ made) → IsRowOf pattern row
    forth row (is, same) = subst (IsRowOf pattern) (sym same) (refl, record { not_empty = is.0; exact = exact; enough = is.1 })

    back : (row : NamedRow) → IsRowOf pattern row → IsEnough × (row ≡ made)
    back row (same, is) =
        let own : IsFrequent d pattern row.support = subst (λ p. IsFrequent d p row.support) same is in
        let support : row.support ≡ n = Counts-unique (λ items. IsPatternOf d.links d.expression items pattern) d.sequences row.support n own.exact exact in
        ((own.not_empty, subst (λ n. d.threshold ≤ n) support own.enough), λ i. record { pattern = same i; support = support i })

    row_with : Listing (IsRowOf pattern)
    row_with = listing-like (λ row. IsEnough × (row ≡ made)) (IsRowOf pattern) forth back
        (listing-where IsEnough (λ row. row ≡ made)
        (decided-both (pattern ≢ []) (d.threshold ≤ n)
        (decided-not (pattern ≡ []) (lists-discrete (List ℕ) same_list_or_not pattern [])) (reaches n)) (listing-one made))

  row_of : (pattern : List (List ℕ)) → Listing (IsRowOf pattern)
  row_of pattern = let (n, exact) = supported same_list_or_not d pattern in row_with pattern n exact

  module _ (least : 1 ≤ d.threshold) where
    rows : Listing (λ (row : NamedRow). IsFrequent d row.pattern row.support)
    rows = listing-like (λ row. (pattern : List (List ℕ)) × IsCandidate pattern × IsRowOf pattern row) (λ row. IsFrequent d row.pattern row.support)
        (λ row (pattern, is, of). of.1)
        (λ row is. (
          row.pattern,
          counted-some (λ items. IsPatternOf d.links d.expression items row.pattern) d.sequences row.support is.exact (omega (arith, least, is.enough)),
          (refl, is),
        ))
        (listing-from IsCandidate IsRowOf candidates row_of)

    pub answered : (answer : List NamedRow) × IsAnswer d answer
    answered =
        let (sorted, is) = sorted-rows rows.things in (
          sorted,
          record {
            ordered = is.ordered;
            frequent = λ row. (
              λ held. (rows.exact row).0 ((is.exact row).0 held),
              λ frequent. (is.exact row).1 ((rows.exact row).1 frequent),
            );
          },
        )
