-- What workers find, part by part, and all workers together.
use Rattle.std.proofs.Common.{◌≡◌, ◌≢◌, ◌↔◌, ◌⊎◌, ℕ, suc, ◌+◌, ◌%◌, ◌≤◌, ◌<◌, inl, inr, Some, Result, Ok, List, [], ◌∷◌, ◌++◌, length, sum_by, refl, sym, ap, ◌∙◌, subst, arith}
use Rattle.std.specs.List.{AllPairs, Contains, slice_get, flat_map}
use Rattle.std.proofs.lemmas.Bool.{cases_lt}
use Rattle.std.proofs.lemmas.Grind.{flat_map-append}
use Rattle.std.proofs.lemmas.List.{map-append, append-nil}
use Rattle.std.proofs.lemmas.List.Sums.{sum_by-cons, sum_by_push}
use Rattle.std.proofs.lemmas.Option.{slice_get-get_or, slice_get_within, get_or_from_slice_get}
use Rattle.mine_model.specs.declared.item.Item.{Item}
use Rattle.mine_model.specs.declared.memory.NoMemory.{NoMemory}
use Rattle.mine_model.specs.declared.row.Row.{Row}
use Rattle.mine_model.specs.Answer.{Data}
use Rattle.mine_model.proofs.ListLemmas.{Contains-cases, Contains-none, Contains-first}
use Rattle.mine_model.proofs.ElementLemmas.{get-held}
use Rattle.std.proofs.lemmas.List.Elements.{Contains-append_left, Contains-append_right, Contains-append_cases}
use Rattle.automaton_model.specs.Groups.{AreRowsOfPivot}
use Rattle.cand_automaton.specs.declared.parts.Done.{Done}
use Rattle.cand_automaton.specs.Pivots.{AreRowsOfPivots, AreSetsOfPivots, AreFound}
use Rattle.cand_automaton.specs.Workers.{AreGathered}
use Rattle.cand_automaton.proofs.PivotsLemmas.{rows-none, sets-none, rows-one, rows-same, sets-same, rows-join, sets-join}

module _ (d : Data Item) (order : List Item) (once : AllPairs (λ v w. v ≢ w) order) (pivots : List ℕ) (rising : AllPairs (λ low high. low < high) pivots)
    (least : (pivot : ℕ) → Contains pivots pivot → 1 ≤ pivot) where
  abbrev Found : (ℕ → Type 0) → List Row → ℕ → Type 0
  Found IsOwn rows sets = AreFound d order pivots IsOwn rows sets

  abbrev At : ℕ → ℕ → Type 0
  At place pivot = slice_get pivots place ≡ Some pivot

  -- a pivot stands at one place
  place-same : (i j p : ℕ) → At i p → At j p → i ≡ j
  place-same i j p here there = elim (cases_lt i j) [
    | inl less ↦ absurd (let more = rising i j p less (slice_get_within pivots j p there) in
        omega (arith, more, get_or_from_slice_get pivots i p p here, get_or_from_slice_get pivots j p p there))
    | inr most ↦ elim (cases_lt j i) [
      | inl less ↦ absurd (let more = rising j i p less (slice_get_within pivots i p here) in
          omega (arith, more, get_or_from_slice_get pivots i p p here, get_or_from_slice_get pivots j p p there))
      | inr least_too ↦ omega (arith, most, least_too)
    ]
  ]

  -- the pivots of no place
  pub found-none : (IsOwn : ℕ → Type 0) → ((place pivot : ℕ) → At place pivot → IsOwn place → ⊥) → Found IsOwn [] 0
  found-none IsOwn none = record {
    own = [];
    exact = λ pivot. ((λ held. absurd (Contains-none pivot held)), (λ (place, is, at). absurd (none place pivot at is)));
    rows_are = rows-none d order;
    sets_are = sets-none d order;
  }

  -- that of one place
  pub found-one : (place pivot : ℕ) (rows : List Row) (count : ℕ) → At place pivot → AreRowsOfPivot d order pivot rows → AreSetsOfPivots d order (pivot ∷ []) count
      → Found (λ other. other ≡ place) rows count
  found-one place pivot rows count at rows_are sets_are = record {
    own = pivot ∷ [];
    exact = λ other. (
      (λ held. elim (Contains-cases pivot [] other held) [
        | inl same ↦ (place, refl, at ∙ ap (λ (p : ℕ). Some p) (sym same))
        | inr none ↦ absurd (Contains-none other none)
      ]),
      (λ (there, same, is).
          let one : pivot ≡ other = sym (get_or_from_slice_get pivots place pivot pivot at) ∙ get_or_from_slice_get pivots place other pivot (ap (slice_get pivots) (sym same) ∙ is) in
          subst (Contains (pivot ∷ [])) one (Contains-first pivot [])),
    );
    rows_are = rows-one d order pivot rows rows_are;
    sets_are = sets_are;
  }

  -- the same places
  pub found-same : (IsOwn Also : ℕ → Type 0) → ((place pivot : ℕ) → At place pivot → IsOwn place ↔ Also place) → (rows : List Row) (sets : ℕ) → Found IsOwn rows sets → Found Also rows sets
  found-same IsOwn Also same rows sets is = record {
    own = is.own;
    exact = λ pivot. (
      (λ held. let (place, own, at) = (is.exact pivot).0 held in (place, (same place pivot at).0 own, at)),
      (λ (place, also, at). (is.exact pivot).1 (place, (same place pivot at).1 also, at)),
    );
    rows_are = is.rows_are;
    sets_are = is.sets_are;
  }

  -- places of two kinds that exclude each other
  pub found-join : (One Other Both : ℕ → Type 0) → ((place : ℕ) → One place → Other place → ⊥) → ((place pivot : ℕ) → At place pivot → Both place ↔ (One place ⊎ Other place))
      → (rows more : List Row) (sets count : ℕ) → Found One rows sets → Found Other more count → Found Both (rows ++ more) (sets + count)
  found-join One Other Both apart either rows more sets count is also = record {
    own = is.own ++ also.own;
    exact = λ pivot. (
      (λ held. elim (Contains-append_cases is.own also.own pivot held) [
        | inl here ↦ (let (place, own, at) = (is.exact pivot).0 here in (place, (either place pivot at).1 (inl own), at))
        | inr there ↦ (let (place, own, at) = (also.exact pivot).0 there in (place, (either place pivot at).1 (inr own), at))
      ]),
      (λ (place, both, at). elim ((either place pivot at).0 both) [
        | inl own ↦ Contains-append_left is.own also.own pivot ((is.exact pivot).1 (place, own, at))
        | inr own ↦ Contains-append_right is.own also.own pivot ((also.exact pivot).1 (place, own, at))
      ]),
    );
    rows_are = rows-join d order once is.own also.own rows more differ one_least other_least is.rows_are also.rows_are;
    sets_are = sets-join d order is.own also.own sets count differ is.sets_are also.sets_are;
  }
    where
      differ : (p q : ℕ) → Contains is.own p → Contains also.own q → p ≢ q
      differ p q here there same =
          let (place, own, at) = (is.exact p).0 here in
          let (other, second, there_at) = (also.exact q).0 there in
          let one : place ≡ other = place-same place other p at (there_at ∙ ap (λ (x : ℕ). Some x) (sym same)) in
          apart place own (subst Other (sym one) second)

      one_least : (p : ℕ) → Contains is.own p → 1 ≤ p
      one_least p here = (let (place, own, at) = (is.exact p).0 here in least p (get-held pivots place p at))

      other_least : (q : ℕ) → Contains also.own q → 1 ≤ q
      other_least q there = (let (place, own, at) = (also.exact q).0 there in least q (get-held pivots place q at))

  -- One worker

  abbrev pub IsOwnBelow : ℕ → ℕ → ℕ → ℕ → Type 0
  IsOwnBelow workers worker number place = (place < number) × (place % workers ≡ worker)

  -- a part that is of another worker
  pub found-passed : (workers worker number : ℕ) (rows : List Row) (sets : ℕ) → (number % workers ≡ worker → ⊥)
      → Found (IsOwnBelow workers worker number) rows sets → Found (IsOwnBelow workers worker (number + 1)) rows sets
  found-passed workers worker number rows sets other is =
      found-same (IsOwnBelow workers worker number) (IsOwnBelow workers worker (number + 1))
      (λ place pivot at. (
        (λ own. (omega (arith, own.0), own.1)),
        (λ own. elim (cases_lt place number) [
          | inl less ↦ (less, own.1)
          | inr most ↦ absurd (let same : place ≡ number = omega (arith, own.0, most) in other (subst (λ n. n % workers ≡ worker) same own.1))
        ]),
      )) rows sets is

  -- a part of its own
  pub found-more : (workers worker number pivot : ℕ) (rows more : List Row) (sets count : ℕ) → number % workers ≡ worker → At number pivot
      → AreRowsOfPivot d order pivot more → AreSetsOfPivots d order (pivot ∷ []) count
      → Found (IsOwnBelow workers worker number) rows sets → Found (IsOwnBelow workers worker (number + 1)) (rows ++ more) (sets + count)
  found-more workers worker number pivot rows more sets count own at rows_are sets_are is =
      found-join (IsOwnBelow workers worker number) (λ place. place ≡ number) (IsOwnBelow workers worker (number + 1))
      (λ place below same. omega (arith, below.0, same))
      (λ place other at_other. (
        (λ both. elim (cases_lt place number) [
          | inl less ↦ inl (less, both.1)
          | inr most ↦ inr (omega (arith, both.0, most))
        ]),
        (λ either. elim either [
          | inl below ↦ (omega (arith, below.0), below.1)
          | inr same ↦ (omega (arith, same), subst (λ n. n % workers ≡ worker) (sym same) own)
        ]),
      )) rows more sets count is (found-one number pivot more count at rows_are sets_are)

  -- all parts were looked at
  pub found-through : (workers worker number : ℕ) (rows : List Row) (sets : ℕ) → length pivots ≤ number
      → Found (IsOwnBelow workers worker number) rows sets → Found (λ place. place % workers ≡ worker) rows sets
  found-through workers worker number rows sets whole is =
      found-same (IsOwnBelow workers worker number) (λ place. place % workers ≡ worker)
      (λ place pivot at. ((λ own. own.1), (λ own. (omega (arith, whole, slice_get_within pivots place pivot at), own)))) rows sets is

  -- All workers

  abbrev rows_in : List Done → List Row
  rows_in dones = flat_map (λ (done : Done). done.rows.items) dones

  abbrev sets_in : List Done → ℕ
  sets_in dones = sum_by (λ (done : Done). done.sets) dones

  abbrev IsBetween : ℕ → ℕ → ℕ → ℕ → Type 0
  IsBetween workers from to place = (from ≤ place % workers) × (place % workers < to)

  found-from : (workers from : ℕ) (dones : List Done)
      → ((k : ℕ) (done : Done) → slice_get dones k ≡ Some done → Found (λ place. place % workers ≡ from + k) done.rows.items done.sets)
      → Found (IsBetween workers from (from + length dones)) (rows_in dones) (sets_in dones)
  found-from workers from [] each = found-none (IsBetween workers from (from + 0)) (λ place pivot at own. omega (arith, own.0, own.1))
  found-from workers from (done ∷ dones) each =
      let first : Found (λ place. place % workers ≡ from + 0) done.rows.items done.sets = each 0 done refl in
      let rest : Found (IsBetween workers (from + 1) ((from + 1) + length dones)) (rows_in dones) (sets_in dones) =
      found-from workers (from + 1) dones (λ k other at. (let same : from + suc k ≡ (from + 1) + k = omega arith in
      subst (λ n. Found (λ place. place % workers ≡ n) other.rows.items other.sets) same (each (suc k) other at))) in
      let sum : done.sets + sets_in dones ≡ sets_in (done ∷ dones) = sym (sum_by-cons (λ (x : Done). x.sets) done dones) in
      subst (Found (IsBetween workers from (from + length (done ∷ dones))) (rows_in (done ∷ dones))) sum
      (found-join (λ place. place % workers ≡ from + 0) (IsBetween workers (from + 1) ((from + 1) + length dones)) (IsBetween workers from (from + length (done ∷ dones)))
      (λ place same own. omega (arith, same, own.0))
      (λ place pivot at. (
        (λ both. elim (cases_lt from (place % workers)) [
          | inl less ↦ inr (omega (arith, less), omega (arith, both.1))
          | inr most ↦ inl (omega (arith, both.0, most))
        ]),
        (λ either. elim either [
          | inl same ↦ (omega (arith, same), omega (arith, same))
          | inr own ↦ (omega (arith, own.0), omega (arith, own.1))
        ]),
      )) done.rows.items (rows_in dones) done.sets (sets_in dones) first rest)

  -- WHAT ALL WORKERS found is what all pivots have
  pub found-all : (workers : ℕ) (dones : List Done) → 1 ≤ workers → length dones ≡ workers
      → ((k : ℕ) (done : Done) → slice_get dones k ≡ Some done → Found (λ place. place % workers ≡ k) done.rows.items done.sets)
      → AreRowsOfPivots d order pivots (rows_in dones) × AreSetsOfPivots d order pivots (sets_in dones)
  found-all workers dones some all each =
      let is = found-from workers 0 dones (λ k done at. (let same : k ≡ 0 + k = omega arith in subst (λ n. Found (λ place. place % workers ≡ n) done.rows.items done.sets) same (each k done at))) in
      let same : (pivot : ℕ) → Contains is.own pivot ↔ Contains pivots pivot = λ pivot. (
        (λ held. (let (place, own, at) = (is.exact pivot).0 held in get-held pivots place pivot at)),
        (λ (k, inside, here).
            let at : At k pivot = slice_get-get_or pivots k pivot inside ∙ ap (λ (p : ℕ). Some p) here in
            (is.exact pivot).1 (k, (omega arith, below k), at)),
      ) in
      (rows-same d order is.own pivots (rows_in dones) same is.rows_are, sets-same d order is.own pivots (sets_in dones) same is.sets_are)
    where
      below : (k : ℕ) → k % workers < 0 + length dones
      below k = (let less : k % workers < workers = grind (arith, some) in omega (arith, less, all))

-- what was found by one worker more
pub gathered-more : (results : List (Result Done NoMemory)) (all done now : Done) → AreGathered results all → now.rows.items ≡ all.rows.items ++ done.rows.items → now.sets ≡ all.sets + done.sets
    → AreGathered (results ++ Ok done ∷ []) now
gathered-more results all done now are rows sets =
    let answered : Done → Result Done NoMemory = λ (x : Done). Ok x in
    record {
      found = are.found ++ done ∷ [];
      each = ap (λ (l : List (Result Done NoMemory)). l ++ Ok done ∷ []) are.each ∙ sym (map-append answered are.found (done ∷ []));
      rows = rows ∙ ap (λ (l : List Row). l ++ done.rows.items) are.rows
          ∙ ap (λ (l : List Row). flat_map (λ (x : Done). x.rows.items) are.found ++ l) (sym (append-nil done.rows.items))
          ∙ sym (flat_map-append (λ (x : Done). x.rows.items) are.found (done ∷ []));
      sets = omega (arith, sets, are.sets, sum_by_push (λ (x : Done). x.sets) are.found done);
    }
