-- The sums of all ranks, and which of them were met.
use Rattle.std.proofs.Common.{◌≡◌, ◌≢◌, ℕ, zero, suc, ◌+◌, ◌*◌, ◌^◌, ◌≤◌, ◌<◌, ◌⊎◌, inl, inr, Bool, true, false, ◌||◌, ◌==◌, Some, List, [], ◌∷◌, ◌++◌, length, get_or, set, take, drop, map, replicate, refl, sym, ap, ◌∙◌, subst, arith}
use Rattle.std.specs.List.{AllPairs, Contains, list_any, slice_get}
use Rattle.std.proofs.lemmas.Bool.{cases_lt, cases_eq, eq-eqb, lt-ltb, le-ltb, ne_eqb}
use Rattle.std.proofs.lemmas.List.Elements.{Contains-push, Contains-push_cases, Contains-append_left}
use Rattle.std.proofs.lemmas.List.{get_or_default, take_more, drop_more, drop_all}
use Rattle.std.proofs.lemmas.List.Quantifiers.{all_pairs_push}
use Rattle.std.proofs.lemmas.List.Folds.{list_any-append}
use Rattle.std.proofs.lemmas.Option.{same_Some, slice_get_within}
use Rattle.mine_model.proofs.ElementLemmas.{get-some, get_set_same, get_set_other}
use Rattle.mine_model.proofs.ListLemmas.{AllPairs-tail, Contains-cases, Contains-none}
use Rattle.place_walk.specs.declared.visit.Visit.{Visit}
use Rattle.stand_sums.specs.declared.aim.Aim.{Aim}
use Rattle.stand_sums.specs.declared.sum.Sum.{Sum}
use Rattle.stand_sums.specs.declared.sum.Counted.{Counted}
use Rattle.stand_sums.specs.Aims.{sees}
use Rattle.stand_sums.specs.Writings.{Ranks, goes_on, stops}
use Rattle.stand_sums.specs.Sums.{Tally, empty_tally}
use Rattle.stand_sums.specs.Kept.{nothing, tally_of, once, latest, met, is_among, behind_ranks, behind_visit, IsSum, AreSums}

-- ---- one sum

small-part : (counts : Bool) (counted : Counted) (last sum : ℕ) → last ≤ counted.number → sum ≤ last * 2 ^ 32 → counted.weight < 2 ^ 32
    → once counts counted last sum ≤ latest counts counted last * 2 ^ 32
small-part false counted last sum most small light = small
small-part true counted last sum most small light = elim (cases_lt last counted.number) [
  | inl before ↦ rw (lt-ltb last counted.number before) (omega (arith, small, light, before))
  | inr now ↦ rw (le-ltb last counted.number now) (omega (arith, small, now, most))
]

last-part : (counts : Bool) (counted : Counted) (last : ℕ) → last ≤ counted.number → latest counts counted last ≤ counted.number
last-part false counted last most = most
last-part true counted last most = omega arith

pub met-sum : (counted : Counted) (opening ending : Bool) (sum : Sum) → IsSum counted.number sum → counted.weight < 2 ^ 32 → IsSum counted.number (met counted opening ending sum)
met-sum counted opening ending sum is light = record {
  followed = last-part (opening || ending) counted sum.followed is.followed;
  ended = last-part ending counted sum.ended is.ended;
  opened = last-part opening counted sum.opened is.opened;
  weight = small-part (opening || ending) counted sum.followed sum.weight is.followed is.weight light;
  support = small-part ending counted sum.ended sum.support is.ended is.support light;
  longer = small-part opening counted sum.opened sum.longer is.opened is.longer light;
}

pub more-sum : (number next : ℕ) (sum : Sum) → number ≤ next → IsSum number sum → IsSum next sum
more-sum number next sum more is =
    let followed = is.followed in
    let ended = is.ended in
    let opened = is.opened in
    record {
      followed = omega arith;
      ended = omega arith;
      opened = omega arith;
      weight = is.weight;
      support = is.support;
      longer = is.longer;
    }

pub more-sums : (number next : ℕ) (sums : List Sum) (touched : List ℕ) → number ≤ next → AreSums number sums touched → AreSums next sums touched
more-sums number next sums touched more are = record {
  right = λ rank sum at. more-sum number next sum more (are.right rank sum at);
  known = are.known;
  rest = are.rest;
  once = are.once;
}

-- ---- one sum is changed

module _ (number : ℕ) (sums : List Sum) (touched : List ℕ) (are : AreSums number sums touched) (rank : ℕ) (before after : Sum)
    (at : slice_get sums rank ≡ Some before) (is : IsSum number after) (followed : 0 < after.followed) where
  changed-right : (k : ℕ) (sum : Sum) → slice_get (set sums rank after) k ≡ Some sum → IsSum number sum
  changed-right k sum there = elim (cases_eq k rank) [
    | inl same ↦
        let there' : slice_get (set sums rank after) rank ≡ Some sum = subst (λ (n : ℕ). slice_get (set sums rank after) n ≡ Some sum) same there in
        subst (IsSum number) (same_Some after sum (sym (get_set_same sums rank before after at) ∙ there')) is
    | inr other ↦ are.right k sum (sym (get_set_other sums rank k after other) ∙ there)
  ]

  changed-known : (k : ℕ) → Contains touched k → (sum : Sum) × (slice_get (set sums rank after) k ≡ Some sum) × (0 < sum.followed)
  changed-known k held = elim (cases_eq k rank) [
    | inl same ↦ (after, ap (slice_get (set sums rank after)) same ∙ get_set_same sums rank before after at, followed)
    | inr other ↦ let (sum, there, some) = are.known k held in (sum, get_set_other sums rank k after other ∙ there, some)
  ]

  -- that was met before
  pub stays-met : before.followed ≢ 0 → AreSums number (set sums rank after) touched
  stays-met met_before = record {
    right = changed-right;
    known = changed-known;
    rest = λ k sum there. elim (cases_eq k rank) [
      | inl same ↦ elim (are.rest rank before at) [
        | inl none ↦ absurd (met_before (ap (λ (s : Sum). s.followed) none))
        | inr held ↦ inr (subst (Contains touched) (sym same) held)
      ]
      | inr other ↦ are.rest k sum (sym (get_set_other sums rank k after other) ∙ there)
    ];
    once = are.once;
  }

  -- that was not
  pub is-met : before.followed ≡ 0 → AreSums number (set sums rank after) (touched ++ rank ∷ [])
  is-met new =
      let apart : (k : ℕ) → Contains touched k → k ≢ rank = λ k held same.
      let (sum, there, some) = are.known k held in
      let this : sum ≡ before = same_Some sum before (sym there ∙ ap (slice_get sums) same ∙ at) in
      let no' : sum.followed ≡ 0 = ap (λ (s : Sum). s.followed) this ∙ new in
      omega arith in
      record {
        right = changed-right;
        known = λ k held. elim (Contains-push_cases touched rank k held) [
          | inl there ↦ changed-known k there
          | inr same ↦ (after, ap (slice_get (set sums rank after)) (sym same) ∙ get_set_same sums rank before after at, followed)
        ];
        rest = λ k sum there. elim (cases_eq k rank) [
          | inl same ↦ inr (subst (Contains (touched ++ rank ∷ [])) (sym same) (Contains-push touched rank))
          | inr other ↦ elim (are.rest k sum (sym (get_set_other sums rank k after other) ∙ there)) [
            | inl none ↦ inl none
            | inr held ↦ inr (Contains-append_left touched (rank ∷ []) k held)
          ]
        ];
        once = all_pairs_push (λ (one other : ℕ). one ≢ other) touched rank are.once
            (λ k d inside. apart (get_or touched k d) (k, inside, get_or_default touched k (get_or touched k d) d inside));
      }

-- ---- the ranks of one visit

pub or_false : (b : Bool) → (b || (false || false)) ≡ b
or_false true = refl
or_false false = refl

-- a rank is not among those before it
pub not-before : (ranks : List ℕ) (k : ℕ) → AllPairs (λ one other. one ≢ other) ranks → k < length ranks → list_any (λ other. other == get_or ranks k 0) (take k ranks) ≡ false
not-before [] k once inside = absurd (omega arith)
not-before (rank ∷ ranks) zero once inside = refl
not-before (rank ∷ ranks) (suc k) once inside =
    let apart : (rank == get_or ranks k 0) ≡ false = ne_eqb rank (get_or ranks k 0) (once 0 (suc k) 0 (omega arith) inside) in
    rw apart (not-before ranks k (AllPairs-tail (λ (one other : ℕ). one ≢ other) rank ranks once) (omega arith))

pub among-more : (rank : ℕ) (ranks : List ℕ) (k : ℕ) → k < length ranks → is_among rank (take (k + 1) ranks) ≡ (is_among rank (take k ranks) || (get_or ranks k 0 == rank || false))
among-more rank ranks k inside = ap (is_among rank) (take_more ranks k 0 inside) ∙ list_any-append (λ other. other == rank) (take k ranks) (get_or ranks k 0 ∷ [])

module _ (opening ending : ℕ → Bool) (counted : Counted) (ranks : List ℕ) (apart : AllPairs (λ one other. one ≢ other) ranks) (k : ℕ) (inside : k < length ranks) (rank : ℕ) (sum : Sum) where
  -- one more, which is this rank
  pub this-rank : get_or ranks k 0 ≡ rank
      → met counted (opening rank) (ending rank) (behind_ranks opening ending counted rank (take k ranks) sum) ≡ behind_ranks opening ending counted rank (take (k + 1) ranks) sum
  this-rank same =
      let none : is_among rank (take k ranks) ≡ false = subst (λ (r : ℕ). is_among r (take k ranks) ≡ false) same (not-before ranks k apart inside) in
      let now : is_among rank (take (k + 1) ranks) ≡ true = among-more rank ranks k inside ∙ (rw (none, eq-eqb (get_or ranks k 0) rank same) refl) in
      rw (none, now) refl

  -- with which it neither goes on nor ends
  pub quiet-rank : get_or ranks k 0 ≡ rank → opening rank ≡ false → ending rank ≡ false
      → behind_ranks opening ending counted rank (take k ranks) sum ≡ behind_ranks opening ending counted rank (take (k + 1) ranks) sum
  quiet-rank same closed stays =
      let before : Sum = behind_ranks opening ending counted rank (take k ranks) sum in
      ap (λ (b : Bool). met counted b false before) (sym closed) ∙ ap (λ (b : Bool). met counted (opening rank) b before) (sym stays) ∙ this-rank same

  -- or another
  pub other-rank : (get_or ranks k 0 ≡ rank → ⊥) → behind_ranks opening ending counted rank (take k ranks) sum ≡ behind_ranks opening ending counted rank (take (k + 1) ranks) sum
  other-rank other =
      let same : is_among rank (take (k + 1) ranks) ≡ is_among rank (take k ranks) =
      among-more rank ranks k inside ∙ (rw (ne_eqb (get_or ranks k 0) rank other) (or_false (is_among rank (take k ranks)))) in
      rw same refl

-- behind a visit whose ranks are these
module _ (ranks : Ranks) (aim : Aim) (counted : Counted) (rank : ℕ) (visit : Visit) (list : List ℕ) (is : list ≡ ranks visit.kind visit.action.state) (sum : Sum) where
  pub each-visit : behind_ranks (λ other. goes_on aim other visit.action) (λ other. stops aim other visit.action) counted rank list sum ≡ behind_visit ranks aim counted rank sum visit
  each-visit = ap (λ (l : List ℕ). behind_ranks (λ other. goes_on aim other visit.action) (λ other. stops aim other visit.action) counted rank l sum) is

  -- where what is needed is seen with the rank
  pub alike-visit : sees aim rank ≡ true → behind_ranks (λ _. visit.action.more) (λ _. visit.action.ends) counted rank list sum ≡ behind_visit ranks aim counted rank sum visit
  alike-visit seen = sym (rw seen refl) ∙ each-visit

-- ---- all sums are cleared

pub all-nothing : (sums : List Sum) → ((k : ℕ) (sum : Sum) → slice_get sums k ≡ Some sum → sum ≡ nothing) → sums ≡ replicate (length sums) nothing
all-nothing [] all = refl
all-nothing (sum ∷ sums) all = λ i. all 0 sum refl i ∷ all-nothing sums (λ k one at. all (suc k) one at) i

module _ (sums : List Sum) (touched : List ℕ) (k : ℕ) (inside : k < length touched) where
  pub touched-within : (number : ℕ) (before : List Sum) → AreSums number before touched → length sums ≡ length before → get_or touched k 0 < length sums
  touched-within number before are long =
      let (sum, at, some) = are.known (get_or touched k 0) (k, inside, get_or_default touched k (get_or touched k 0) 0 inside) in
      let short = slice_get_within before (get_or touched k 0) sum at in
      omega (arith, short, long)

  pub cleared-more : get_or touched k 0 < length sums → ((rank : ℕ) (sum : Sum) → slice_get sums rank ≡ Some sum → (sum ≡ nothing) ⊎ Contains (drop k touched) rank)
      → (rank : ℕ) (sum : Sum) → slice_get (set sums (get_or touched k 0) nothing) rank ≡ Some sum → (sum ≡ nothing) ⊎ Contains (drop (k + 1) touched) rank
  cleared-more within rest rank sum at = elim (cases_eq rank (get_or touched k 0)) [
    | inl same ↦
        let (before, there) = get-some sums (get_or touched k 0) within in
        let at' : slice_get (set sums (get_or touched k 0) nothing) (get_or touched k 0) ≡ Some sum =
        subst (λ (n : ℕ). slice_get (set sums (get_or touched k 0) nothing) n ≡ Some sum) same at in
        inl (same_Some sum nothing (sym at' ∙ get_set_same sums (get_or touched k 0) before nothing there))
    | inr other ↦ elim (rest rank sum (sym (get_set_other sums (get_or touched k 0) rank nothing other) ∙ at)) [
      | inl none ↦ inl none
      | inr held ↦
          elim (Contains-cases (get_or touched k 0) (drop (k + 1) touched) rank (subst (λ (l : List ℕ). Contains l rank) (drop_more touched k 0 inside) held)) [
            | inl same ↦ absurd (other same)
            | inr there ↦ inr there
          ]
    ]
  ]

pub cleared-all : (sums : List Sum) (touched : List ℕ) (k : ℕ) → length touched ≤ k → ((rank : ℕ) (sum : Sum) → slice_get sums rank ≡ Some sum → (sum ≡ nothing) ⊎ Contains (drop k touched) rank)
    → sums ≡ replicate (length sums) nothing
cleared-all sums touched k past rest = all-nothing sums (λ rank sum at. elim (rest rank sum at) [
  | inl none ↦ none
  | inr held ↦ absurd (Contains-none rank (subst (λ (l : List ℕ). Contains l rank) (drop_all k touched past) held))
])

-- ---- the room of a worker

pub no-tallies : (n : ℕ) → map tally_of (replicate n nothing) ≡ replicate n empty_tally
no-tallies zero = refl
no-tallies (suc n) = ap (λ (l : List Tally). empty_tally ∷ l) (no-tallies n)

pub tally-at : (sums : List Sum) (rank : ℕ) (tally : Tally) → slice_get (map tally_of sums) rank ≡ Some tally → (sum : Sum) × (slice_get sums rank ≡ Some sum) × (tally ≡ tally_of sum)
tally-at [] rank tally at = absurd (cc)
tally-at (sum ∷ sums) zero tally at = (sum, refl, same_Some tally (tally_of sum) (sym at))
tally-at (sum ∷ sums) (suc rank) tally at = tally-at sums rank tally at

pub met-followed : (counted : Counted) (opening ending : Bool) (sum : Sum) → (opening || ending) ≡ true → 1 ≤ counted.number → 0 < (met counted opening ending sum).followed
met-followed counted opening ending sum counts some = rw counts some
