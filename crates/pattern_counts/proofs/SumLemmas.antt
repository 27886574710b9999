-- Sums of lists, by what the lists are.
use Rattle.std.proofs.Common.{◌≡◌, ◌≢◌, ℕ, zero, suc, ◌+◌, ◌^◌, ◌<◌, ◌⊎◌, Bool, true, false, cond, Some, List, [], ◌∷◌, ◌++◌, length, get_or, set, take, get_or-set_same, get_or-set_other, length-set, refl, sym, subst, ap, ◌∙◌, inl, inr, arith, Contains}
use Rattle.std.specs.Prelude.{nat_eq}
use Rattle.std.specs.List.{slice_get}
use Rattle.std.specs.Bool.{Decides}
use Rattle.std.specs.Cmp.Lexicographic.{pointwise}
use Rattle.std.proofs.lemmas.List.{length_push, get_or_default, get_or-take, length-take-le, take_more, take_all}
use Rattle.std.proofs.lemmas.Option.{none-some, same_Some, slice_get-get_or, slice_get_within, get_or_from_slice_get}
use Rattle.mine_model.proofs.ListLemmas.{Contains-first, Contains-other}
use Rattle.mine_model.proofs.NameLemmas.{AreDistinct-push}
use Rattle.mine_model.proofs.OnceLemmas.{list_or_not}
use Rattle.mine_model.specs.Names.{AreDistinct}
use Rattle.mine_model.proofs.ElementLemmas.{get-place, decides}
use Rattle.pattern_counts.specs.Tally.{Tally, IsTally, sum_in, sum_of, Adds, AddsAll}

-- Whether a list is there

by_test : (xs ys : List ℕ) (r : Bool) → Decides r (xs ≡ ys) → ((xs ≡ ys) × (r ≡ true)) ⊎ ((xs ≢ ys) × (r ≡ false))
by_test xs ys true d = inl (d.0 refl, refl)
by_test xs ys false d = inr ((λ e. let wrong : false ≡ true = d.1 e in cc), refl)

same_or_not : (xs ys : List ℕ) → ((xs ≡ ys) × (pointwise nat_eq xs ys ≡ true)) ⊎ ((xs ≢ ys) × (pointwise nat_eq xs ys ≡ false))
same_or_not xs ys = by_test xs ys (pointwise nat_eq xs ys) (decides xs ys)

-- Lists that differ

-- two numbers of one list are the same
same_number : (lists : List (List ℕ)) (i j : ℕ) (list : List ℕ) → AreDistinct lists → slice_get lists i ≡ Some list → slice_get lists j ≡ Some list → i ≡ j
same_number lists i j list d at too =
    d i j (slice_get_within lists i list at) (slice_get_within lists j list too)
    (get_or_from_slice_get lists i list [] at ∙ sym (get_or_from_slice_get lists j list [] too))

tail_distinct : (first : List ℕ) (lists : List (List ℕ)) → AreDistinct (first ∷ lists) → AreDistinct lists
tail_distinct first lists d = λ i j i_in j_in same. omega (arith, d (suc i) (suc j) (omega arith) (omega arith) same)

-- The sum of a list

sum_at_first : (first list : List ℕ) (lists : List (List ℕ)) (sum : ℕ) (sums : List ℕ) → first ≡ list → sum_in (first ∷ lists) (sum ∷ sums) list ≡ sum
sum_at_first first list lists sum sums same = ap (λ b. cond b sum (sum_in lists sums list)) ((decides first list).1 same)

sum_past_first : (first list : List ℕ) (lists : List (List ℕ)) (sum : ℕ) (sums : List ℕ) → first ≢ list → sum_in (first ∷ lists) (sum ∷ sums) list ≡ sum_in lists sums list
sum_past_first first list lists sum sums apart = elim (same_or_not first list) [
  | inl same ↦ absurd (apart same.0)
  | inr other ↦ ap (λ b. cond b sum (sum_in lists sums list)) other.1
]

pub sum_at : (lists : List (List ℕ)) (sums : List ℕ) (number : ℕ) (list : List ℕ) → AreDistinct lists → slice_get lists number ≡ Some list → sum_in lists sums list ≡ get_or sums number 0
sum_at [] sums number list d at = absurd (none-some list at)
sum_at (first ∷ lists) [] number list d at = refl
sum_at (first ∷ lists) (sum ∷ sums) zero list d at = sum_at_first first list lists sum sums (same_Some first list at)
sum_at (first ∷ lists) (sum ∷ sums) (suc number) list d at =
    let apart : first ≢ list = λ same. omega (arith, same_number (first ∷ lists) zero (suc number) list d (ap (λ x. Some x) same) at) in
    sum_past_first first list lists sum sums apart ∙ sum_at lists sums number list (tail_distinct first lists d) at

pub sum_nowhere : (lists : List (List ℕ)) (sums : List ℕ) (list : List ℕ) → (Contains lists list → ⊥) → sum_in lists sums list ≡ 0
sum_nowhere [] sums list none = refl
sum_nowhere (first ∷ lists) [] list none = refl
sum_nowhere (first ∷ lists) (sum ∷ sums) list none =
    let apart : first ≢ list = λ same. none (subst (Contains (first ∷ lists)) same (Contains-first first lists)) in
    sum_past_first first list lists sum sums apart ∙ sum_nowhere lists sums list (λ h. none (Contains-other first lists list h))

-- a list is among those held, or its sum is 0
pub held_or_nothing : (tally : Tally) (list : List ℕ) → Contains tally.lists list ⊎ (sum_of tally list ≡ 0)
held_or_nothing tally list = elim (list_or_not tally.lists list) [
  | inl there ↦ inl there
  | inr none ↦ inr (sum_nowhere tally.lists tally.sums list none)
]

-- A weight is added to a sum

module _ (tally : Tally) (is : IsTally tally) (list : List ℕ) (weight : ℕ) where
  -- to that of a list that is held
  pub adds_found : (number value : ℕ) → slice_get tally.lists number ≡ Some list → value ≡ get_or tally.sums number value
      → Adds list weight tally (record { lists = tally.lists; sums = set tally.sums number (value + weight) })
  adds_found number value at read =
      let within : number < length tally.sums = omega (arith, is.each, slice_get_within tally.lists number list at) in
      let next : List ℕ = set tally.sums number (value + weight) in
      record {
        here = omega (
          arith,
          sum_at tally.lists next number list is.distinct at,
          get_or-set_same tally.sums number (value + weight) 0 within,
          sum_at tally.lists tally.sums number list is.distinct at,
          read,
          get_or_default tally.sums number value 0 within,
        );
        others = λ other apart. elim (list_or_not tally.lists other) [
          | inl there ↦
              let (place, stands) = get-place tally.lists other there in
              let elsewhere : place ≢ number = λ same. apart (same_Some other list (sym stands ∙ ap (slice_get tally.lists) same ∙ at)) in
              sum_at tally.lists next place other is.distinct stands
              ∙ get_or-set_other tally.sums number place (value + weight) 0 elsewhere
              ∙ sym (sum_at tally.lists tally.sums place other is.distinct stands)
          | inr none ↦ sum_nowhere tally.lists next other none ∙ sym (sum_nowhere tally.lists tally.sums other none)
        ];
      }

  -- for which there is room
  pub room_found : (number value : ℕ) → slice_get tally.lists number ≡ Some list → value ≡ get_or tally.sums number value → sum_of tally list + weight < 2 ^ 64 → value + weight < 2 ^ 64
  room_found number value at read room =
      let within : number < length tally.sums = omega (arith, is.each, slice_get_within tally.lists number list at) in
      omega (arith, sum_at tally.lists tally.sums number list is.distinct at, read, get_or_default tally.sums number value 0 within, room)

  pub tally_found : (number sum : ℕ) → IsTally (record { lists = tally.lists; sums = set tally.sums number sum })
  tally_found number sum = record { distinct = is.distinct; each = length-set tally.sums number sum ∙ is.each }

  -- to that of a list that is not held
  pub tally_new : (Contains tally.lists list → ⊥) → IsTally (record { lists = tally.lists ++ list ∷ []; sums = tally.sums ++ weight ∷ [] })
  tally_new none = record {
    distinct = AreDistinct-push tally.lists list is.distinct none;
    each = omega (arith, is.each, length_push tally.sums weight, length_push tally.lists list);
  }

sum_push_here : (lists : List (List ℕ)) (sums : List ℕ) (list : List ℕ) (weight : ℕ) → length sums ≡ length lists → (Contains lists list → ⊥)
    → sum_in (lists ++ list ∷ []) (sums ++ weight ∷ []) list ≡ weight
sum_push_here [] [] list weight each none = sum_at_first list list [] weight [] refl
sum_push_here [] (sum ∷ sums) list weight each none = absurd (omega arith)
sum_push_here (first ∷ lists) [] list weight each none = absurd (omega arith)
sum_push_here (first ∷ lists) (sum ∷ sums) list weight each none =
    let apart : first ≢ list = λ same. none (subst (Contains (first ∷ lists)) same (Contains-first first lists)) in
    sum_past_first first list (lists ++ list ∷ []) sum (sums ++ weight ∷ []) apart
    ∙ sum_push_here lists sums list weight (omega arith) (λ h. none (Contains-other first lists list h))

sum_push_other : (lists : List (List ℕ)) (sums : List ℕ) (list : List ℕ) (weight : ℕ) (other : List ℕ) → length sums ≡ length lists → other ≢ list
    → sum_in (lists ++ list ∷ []) (sums ++ weight ∷ []) other ≡ sum_in lists sums other
sum_push_other [] [] list weight other each apart = sum_past_first list other [] weight [] (λ same. apart (sym same))
sum_push_other [] (sum ∷ sums) list weight other each apart = absurd (omega arith)
sum_push_other (first ∷ lists) [] list weight other each apart = absurd (omega arith)
sum_push_other (first ∷ lists) (sum ∷ sums) list weight other each apart =
    ap (λ n. cond (pointwise nat_eq first other) sum n) (sum_push_other lists sums list weight other (omega arith) apart)

pub adds_new : (tally : Tally) (list : List ℕ) (weight : ℕ) → length tally.sums ≡ length tally.lists → (Contains tally.lists list → ⊥)
    → Adds list weight tally (record { lists = tally.lists ++ list ∷ []; sums = tally.sums ++ weight ∷ [] })
adds_new tally list weight each none = record {
  here = omega (arith, sum_push_here tally.lists tally.sums list weight each none, sum_nowhere tally.lists tally.sums list none);
  others = λ other apart. sum_push_other tally.lists tally.sums list weight other each apart;
}

-- All sums of another tally are added

-- the first lists of a tally
pub front : ℕ → Tally → Tally
front n tally = record { lists = take n tally.lists; sums = take n tally.sums }

-- one more list of both
pub adds_both : (list : List ℕ) (weight : ℕ) (begun now then added more : Tally) → Adds list weight now then → Adds list weight added more → AddsAll added begun now → AddsAll more begun then
adds_both list weight begun now then added more step part all other = elim (same_or_not other list) [
  | inl same ↦
      subst (λ l. sum_of then l ≡ sum_of begun l + sum_of more l) (sym same.0) (omega (arith, step.here, part.here, all list))
  | inr apart ↦ omega (arith, step.others other apart.0, part.others other apart.0, all other)
]

module _ (tally : Tally) (is : IsTally tally) where
  pub adds_none : (begun : Tally) → AddsAll (front 0 tally) begun begun
  unfolding front
  adds_none begun list = omega arith

  pub front_all : (n : ℕ) → n ≡ length tally.lists → front n tally ≡ tally
  unfolding front
  front_all n same =
      let lists : take n tally.lists ≡ tally.lists = take_all n tally.lists (omega (arith, same)) in
      let sums : take n tally.sums ≡ tally.sums = take_all n tally.sums (omega (arith, same, is.each)) in
      rw (lists, sums) refl

  module _ (i sum : ℕ) (list : List ℕ) (at : slice_get tally.lists i ≡ Some list) (sum_is : slice_get tally.sums i ≡ Some sum) where
    -- a list is not among those before it
    not_before : Contains (take i tally.lists) list → ⊥
    not_before (k, below, same) =
        let within : i < length tally.lists = slice_get_within tally.lists i list at in
        let before : k < i = omega (arith, below, length-take-le i tally.lists (omega (arith, within))) in
        let read : get_or tally.lists k list ≡ list = sym (get_or-take i tally.lists k list before) ∙ same in
        let stands : slice_get tally.lists k ≡ Some list = slice_get-get_or tally.lists k list (omega (arith, before, within)) ∙ ap (λ x. Some x) read in
        omega (arith, before, same_number tally.lists k i list is.distinct stands at)

    pub front_more : Adds list sum (front i tally) (front (i + 1) tally)
    unfolding front
    front_more =
        let within : i < length tally.lists = slice_get_within tally.lists i list at in
        let inside : i < length tally.sums = slice_get_within tally.sums i sum sum_is in
        let lists : take (i + 1) tally.lists ≡ take i tally.lists ++ list ∷ [] = take_more tally.lists i list within ∙ ap (λ x. take i tally.lists ++ x ∷ []) (get_or_from_slice_get tally.lists i list list at) in
        let sums : take (i + 1) tally.sums ≡ take i tally.sums ++ sum ∷ [] = take_more tally.sums i sum inside ∙ ap (λ x. take i tally.sums ++ x ∷ []) (get_or_from_slice_get tally.sums i sum sum sum_is) in
        rw (lists, sums) (adds_new (front i tally) list sum
        (omega (arith, length-take-le i tally.lists (omega (arith, within)), length-take-le i tally.sums (omega (arith, inside)))) not_before)

    -- there is room for the sum where there is room for all sums
    pub room_for : (begun now : Tally) → AddsAll (front i tally) begun now → ((l : List ℕ) → sum_of begun l + sum_of tally l < 2 ^ 64) → sum_of now list + sum < 2 ^ 64
    unfolding front
    room_for begun now all room =
        omega (arith, all list, sum_nowhere (take i tally.lists) (take i tally.sums) list not_before, room list, sum_at tally.lists tally.sums i list is.distinct at, get_or_from_slice_get tally.sums i sum 0 sum_is)
