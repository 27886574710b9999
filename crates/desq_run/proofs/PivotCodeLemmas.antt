-- The candidates of a sequence with a pivot can be listed, so they have a code.
use Rattle.std.proofs.Common.{◌≡◌, ◌≢◌, ◌⊎◌, inl, inr, ℕ, zero, suc, ◌-◌, ◌≤◌, Option, Some, None, List, [], ◌∷◌, true, false, Bool, refl, sym, ◌∙◌, subst, arith, true≢false}
use Rattle.std.specs.Bool.{Decides}
use Rattle.std.specs.List.{AllByRecursion, AllPairs, Contains, slice_get}
use Rattle.std.proofs.lemmas.Bool.{cases_lt}
use Rattle.mine_model.specs.declared.item.Item.{Item}
use Rattle.mine_model.specs.Generation.{IsPatternOf}
use Rattle.mine_model.specs.Answer.{Data}
use Rattle.mine_model.specs.Ranks.{HasRank, AreRanked}
use Rattle.mine_model.specs.Pivots.{IsRankedUpTo, HoldsRank, IsWithin, IsWithinPivot}
use Rattle.mine_model.proofs.ApartLemmas.{item_eq, item_eq-Decides}
use Rattle.mine_model.proofs.ListLemmas.{Contains-none, Contains-first}
use Rattle.mine_model.proofs.RankedLemmas.{same_ranks, within-ranks}
use Rattle.answer_laws.proofs.ListingLemmas.{Decided, decided-like, decided-both, decided-contained, IsDiscrete, Listing, listing-like, listing-none, listing-one, listing-from, listing-kept, listing-upto}
use Rattle.answer_laws.proofs.OutputLemmas.{patterns}
use Rattle.automaton_model.specs.Members.{IsPivotMember, IsPivotCode}
use Rattle.automaton_model.proofs.AutomatonLemmas.{code-also}
use Rattle.automaton_model.proofs.ExistenceLemmas.{lists-code}

-- two items are the same, or they are not
items_discrete : IsDiscrete Item
items_discrete v w = by (item_eq v w) (item_eq-Decides v w)
  where
    by : (b : Bool) → Decides b (v ≡ w) → Decided (v ≡ w)
    by true decides = inl (decides.0 refl)
    by false decides = inr (λ same. true≢false (sym (decides.1 same)))

-- a listing has a thing, or there is none
decided-some : {X : Type 0} (P : X → Type 0) → Listing P → Decided ((x : X) × P x)
decided-some {X} P listing = by listing.things listing.exact
  where
    by : (things : List X) → ((x : X) → (Contains things x → P x) × (P x → Contains things x)) → Decided ((x : X) × P x)
    by [] exact = inr (λ (x, is). Contains-none x ((exact x).1 is))
    by (x ∷ things) exact = inl (x, (exact x).0 (Contains-first x things))

decided-all : {X : Type 0} (P : X → Type 0) → ((x : X) → Decided (P x)) → (xs : List X) → Decided (AllByRecursion P xs)
decided-all P each [] = inl tt
decided-all P each (x ∷ xs) = decided-both (P x) (AllByRecursion P xs) (each x) (decided-all P each xs)

module _ (order : List Item) where
  -- the item at a place, or none
  place_cases : (rank : ℕ) → ((v : Item) × (slice_get order (rank - 1) ≡ Some v)) ⊎ (slice_get order (rank - 1) ≡ None)
  place_cases rank = by (slice_get order (rank - 1)) refl
    where
      by : (o : Option Item) → slice_get order (rank - 1) ≡ o → ((v : Item) × (slice_get order (rank - 1) ≡ Some v)) ⊎ (slice_get order (rank - 1) ≡ None)
      by (Some v) is = inl (v, is)
      by None is = inr is

  one_place : (rank : ℕ) (v w : Item) → slice_get order (rank - 1) ≡ Some v → slice_get order (rank - 1) ≡ Some w → v ≡ w
  one_place rank v w first second = cc

  no_place : (rank : ℕ) (v : Item) → slice_get order (rank - 1) ≡ None → slice_get order (rank - 1) ≡ Some v → ⊥
  no_place rank v none is = absurd (cc)

  decided-least : (rank : ℕ) → Decided (1 ≤ rank)
  decided-least rank = elim (cases_lt rank 1) [ inl less ↦ inr (λ most. omega (arith, less, most)) | inr most ↦ inl most ]

  decided-place : (v : Item) (rank : ℕ) → Decided (slice_get order (rank - 1) ≡ Some v)
  decided-place v rank = elim (place_cases rank) [
    | inl at ↦ decided-like (at.0 ≡ v) (slice_get order (rank - 1) ≡ Some v)
        (λ same. subst (λ w. slice_get order (rank - 1) ≡ Some w) same at.1) (λ is. one_place rank at.0 v at.1 is) (items_discrete at.0 v)
    | inr none ↦ inr (λ is. no_place rank v none is)
  ]

  decided-rank : (v : Item) (rank : ℕ) → Decided (HasRank order v rank)
  decided-rank v rank = decided-like ((1 ≤ rank) × (slice_get order (rank - 1) ≡ Some v)) (HasRank order v rank)
      (λ both. record { least = both.0; place = both.1 }) (λ has. (has.least, has.place))
      (decided-both (1 ≤ rank) (slice_get order (rank - 1) ≡ Some v) (decided-least rank) (decided-place v rank))

  decided-up : (top : ℕ) (v : Item) → Decided (IsRankedUpTo order top v)
  decided-up top v = decided-like ((rank : ℕ) × ((rank ≤ top) × HasRank order v rank)) (IsRankedUpTo order top v)
      (λ is. (is.0, is.1.1, is.1.0)) (λ is. (is.0, (is.2, is.1)))
      (decided-some (λ rank. (rank ≤ top) × HasRank order v rank) (listing-kept (λ rank. rank ≤ top) (HasRank order v) (decided-rank v) (listing-upto top)))

  decided-holds : (items : List Item) (rank : ℕ) → 1 ≤ rank → Decided (HoldsRank order items rank)
  decided-holds items rank least = elim (place_cases rank) [
    | inl at ↦ decided-like (Contains items at.0) (HoldsRank order items rank)
        (λ held. (at.0, held, record { least = least; place = at.1 }))
        (λ (v, held, has). subst (Contains items) (one_place rank v at.0 has.place at.1) held)
        (decided-contained items_discrete items at.0)
    | inr none ↦ inr (λ (v, held, has). no_place rank v none has.place)
  ]

  decided-within : (top : ℕ) → 1 ≤ top → (items : List Item) → Decided (IsWithin order top (Some top) items)
  decided-within top least items = decided-like (AllByRecursion (IsRankedUpTo order top) items × HoldsRank order items top) (IsWithin order top (Some top) items)
      (λ both. record { ranked = both.0; needed = both.1 }) (λ is. (is.ranked, is.needed))
      (decided-both (AllByRecursion (IsRankedUpTo order top) items) (HoldsRank order items top)
      (decided-all (IsRankedUpTo order top) (decided-up top) items) (decided-holds items top least))

  decided-pivot : (pivot : ℕ) → 1 ≤ pivot → (items : List Item) → Decided (IsWithinPivot order pivot items)
  decided-pivot zero least items = absurd (omega (arith, least))
  decided-pivot (suc pivot) least items = decided-within (suc pivot) least items

module _ (d : Data Item) (order : List Item) (different : AllPairs (λ v w. v ≢ w) order) (pivot : ℕ) (least : 1 ≤ pivot) where
  abbrev HasRanks : List Item → List ℕ → Type 0
  HasRanks pattern ranks = IsWithinPivot order pivot pattern × AreRanked order pattern ranks

  ranks_of : (pattern : List Item) → Listing (HasRanks pattern)
  ranks_of pattern = elim (decided-pivot order pivot least pattern) [
    | inl within ↦
        let (ranks, ranked) = within-ranks order pivot pattern within in
        listing-like (λ list. list ≡ ranks) (HasRanks pattern)
        (λ list same. (within, subst (AreRanked order pattern) (sym same) ranked))
        (λ list is. same_ranks order different pattern list ranks is.1 ranked) (listing-one ranks)
    | inr never ↦ listing-none (HasRanks pattern) (λ list is. never is.0)
  ]

  members : (items : List Item) → Listing (IsPivotMember d order pivot items)
  members items = listing-like (λ ranks. (pattern : List Item) × IsPatternOf d.links d.expression items pattern × HasRanks pattern ranks)
      (IsPivotMember d order pivot items)
      (λ ranks (pattern, is, has). record { pattern = pattern; ranked = has.1; generated = is; within = has.0 })
      (λ ranks member. (member.pattern, member.generated, (member.within, member.ranked)))
      (listing-from (IsPatternOf d.links d.expression items) HasRanks (patterns items_discrete d.links d.expression items) ranks_of)

  -- THE CANDIDATES of a sequence with a pivot have a code
  pub pivot-code : (items : List Item) → (code : List ℕ) × IsPivotCode d order pivot code items
  pivot-code items =
      let listing = members items in
      let (code, is) = lists-code listing.things in
      (code, code-also (Contains listing.things) (IsPivotMember d order pivot items) listing.exact code is)
