-- One item of the table and of the front.
use Rattle.std.proofs.Common.{◌≡◌, ℕ, ◌+◌, ◌<◌, ◌≤◌, ◌⊎◌, ◌↔◌, inl, inr, List, ◌∷◌, ◌++◌, length, get_or, drop, Some, refl, sym, subst, arith}
use Rattle.std.specs.List.{All, Contains, slice_index, slice_get}
use Rattle.std.proofs.lemmas.List.{drop_more}
use Rattle.std.proofs.lemmas.List.Elements.{Contains-get_or}
use Rattle.std.proofs.lemmas.Option.{slice_get-get_or}
use Rattle.mine_model.specs.declared.item.Item.{Item}
use Rattle.fst_compile.specs.Transducer.{Leads}
use Rattle.sequence_grids.specs.declared.reading.Reading.{Reading}
use Rattle.mining_job.specs.Problems.{Problem, IsWhole}
use Rattle.sequence_grids.specs.Grids.{GridList, items_at, rest_at}
use Rattle.sequence_grids.specs.Readings.{IsReading, HasOutputs, outputs_at}
use Rattle.sequence_grids.specs.Kinds.{IsTarget}
use Rattle.pivot_partition.specs.Tops.{no_rank, IsRowOf, IsTableFrom, GoesUpTo, row_at}
use Rattle.pivot_partition.proofs.TopLemmas.{reading-goes, reading-needs, reading-ranks, entered-row, before-row, front-step}
use Rattle.pivot_partition.proofs.TableLemmas.{table-more}
use Rattle.pivot_partition.proofs.FrontLemmas.{AreFoundSoFar, found-more}

abbrev pub no_item : Item
no_item = record { 0 = 0 }

-- the item at a position of the first grid
abbrev pub item_at : GridList → ℕ → Item
item_at grids position = get_or (items_at grids 0) position no_item

pub item-there : (grids : GridList) (position : ℕ) → position < length (items_at grids 0) → slice_get (items_at grids 0) position ≡ Some (item_at grids position)
item-there grids position inside = slice_get-get_or (items_at grids 0) position no_item inside

pub item-rest : (grids : GridList) (position : ℕ) → position < length (items_at grids 0) → drop position (items_at grids 0) ≡ item_at grids position ∷ rest_at grids 0 (position + 1)
item-rest grids position inside = drop_more (items_at grids 0) position no_item inside

module _ (problem : Problem) (whole : IsWhole problem) (grids : GridList) (same : grids.problem ≡ problem) (top : grids.bound.top ≡ length problem.ranking.order)
    (few : length problem.ranking.order < no_rank) (position : ℕ) (inside : position < length (items_at grids 0)) (reading : Reading)
    (told : (t : Item) → slice_get (items_at grids 0) position ≡ Some t → IsReading grids.problem grids.bound t (rest_at grids 0 (position + 1)) reading) where
  pub the-reading : IsReading problem grids.bound (item_at grids position) (rest_at grids 0 (position + 1)) reading
  the-reading =
      subst (λ p. IsReading p grids.bound (item_at grids position) (rest_at grids 0 (position + 1)) reading) same (told (item_at grids position) (item-there grids position inside))

  pub outputs-kept : (state : ℕ) → 1 ≤ state → state < length problem.transducer.labels + 1 → HasOutputs reading state
  outputs-kept state least less = (the-reading state least (omega (arith, less))).kept

  pub outputs-within : (size : ℕ) → length problem.ranking.order < size → (state : ℕ) → 1 ≤ state → state < length problem.transducer.labels + 1
      → All (λ rank. rank < size) (outputs_at reading state)
  outputs-within size room state least less = λ k d below.
      let ranks = reading-ranks problem whole (item_at grids position) (rest_at grids 0 (position + 1)) grids.bound top reading the-reading state (get_or (outputs_at reading state) k d)
      (least, omega (arith, less)) (Contains-get_or (outputs_at reading state) k d below) in
      omega (arith, ranks.1, room)

  -- the table with the row of the position
  pub table-step : (table below entered row : List ℕ) → IsTableFrom problem (items_at grids 0) (position + 1) table
      → below ≡ drop (row_at problem (items_at grids 0) (position + 1)) table → length row ≡ length problem.transducer.labels + 1
      → ((state p : ℕ) → 1 ≤ state → state ≤ length problem.transducer.labels → p < no_rank
      → slice_index entered state ≤ p ↔ (GoesUpTo reading state p × (slice_index below state ≤ p)))
      → ((state p : ℕ) → state ≤ length problem.transducer.labels → p < no_rank
      → slice_index row state ≤ p ↔ ((to : ℕ) × Leads problem.transducer state to × (slice_index entered to ≤ p)))
      → IsTableFrom problem (items_at grids 0) position (table ++ row)
  table-step table below entered row before is long enters rows =
      let under : IsRowOf problem (rest_at grids 0 (position + 1)) below = subst (IsRowOf problem (rest_at grids 0 (position + 1))) (sym is) (before.rows (position + 1) (omega arith) before.inside) in
      let entry = entered-row problem whole (item_at grids position) (rest_at grids 0 (position + 1)) grids.bound top reading the-reading below entered few under enters in
      let row_is : IsRowOf problem (item_at grids position ∷ rest_at grids 0 (position + 1)) row =
      before-row problem whole (item_at grids position) (rest_at grids 0 (position + 1)) entered row few entry rows in
      table-more problem (items_at grids 0) position (position + 1) table row refl before long
      (subst (λ rest. IsRowOf problem rest row) (sym (item-rest grids position inside)) row_is)

  -- the front behind the item, and what is found with it
  pub find-step : (front entered below after found more : List ℕ) (states : ℕ) → states ≡ length problem.transducer.labels + 1
      → IsRowOf problem (rest_at grids 0 (position + 1)) below
      → ((state p : ℕ) → state ≤ length problem.transducer.labels → p < no_rank
      → slice_index entered state ≤ p ↔ ((from : ℕ) × (from ≤ length problem.transducer.labels) × (slice_index front from ≤ p) × Leads problem.transducer from state))
      → ((rank : ℕ) → rank < no_rank → Contains more rank ↔ (Contains found rank ⊎ ((state : ℕ) × (1 ≤ state) × (state < states)
      × (slice_index entered state ≤ rank) × (slice_index below state ≤ rank) × Contains (outputs_at reading state) rank)))
      → slice_index after 0 ≡ no_rank
      → ((state p : ℕ) → 1 ≤ state → state < states → p < no_rank → slice_index after state ≤ p ↔ (GoesUpTo reading state p × (slice_index entered state ≤ p)))
      → ((rank : ℕ) → Contains more rank → rank ≤ length problem.ranking.order)
      → AreFoundSoFar problem (items_at grids 0) front found position → AreFoundSoFar problem (items_at grids 0) after more (position + 1)
  find-step front entered below after found more states all row spreads added start passes within before =
      found-more problem whole (items_at grids 0) front after found more position (item_at grids position) (item-rest grids position inside) before
      (λ rank held. elim ((added rank (let most = within rank held in omega (arith, most, few))).0 held) [
        | inl old ↦ before.ranks rank old
        | inr (state, least, less, low, under, out) ↦
            reading-ranks problem whole (item_at grids position) (rest_at grids 0 (position + 1)) grids.bound top reading the-reading state rank (least, omega (arith, less, all)) out
      ])
      (λ p. (state : ℕ) × (1 ≤ state) × (state < states) × (slice_index entered state ≤ p) × (slice_index below state ≤ p) × Contains (outputs_at reading state) p)
      (λ p most. added p (omega (arith, most, few)))
      (λ p most.
      let step = front-step problem whole (item_at grids position) (rest_at grids 0 (position + 1)) front entered below after p most few row
      (λ state within'. spreads state p within' (omega (arith, most, few)))
      (λ state target.
      let pass = passes state p target.0 (omega (arith, target.1, all)) (omega (arith, most, few)) in
      let goes = reading-goes problem whole (item_at grids position) (rest_at grids 0 (position + 1)) grids.bound top reading the-reading state p target in (
        (λ low. let both = pass.0 low in (goes.0 both.0, both.1)),
        (λ both. pass.1 (goes.1 both.0, both.1)),
      )) start in (
        (λ writes. elim (step.0 writes) [
          | inl (state, target, low, under, needs) ↦
              inl (state, target.0, omega (arith, target.1, all), low, under, (reading-needs problem whole (item_at grids position) (rest_at grids 0 (position + 1)) grids.bound top reading the-reading state p target).1 needs)
          | inr later ↦ inr later
        ]),
        (λ either. elim either [
          | inl (state, least, less, low, under, out) ↦
              let target : IsTarget problem state = (least, omega (arith, less, all)) in
              step.1 (inl (state, target, low, under, (reading-needs problem whole (item_at grids position) (rest_at grids 0 (position + 1)) grids.bound top reading the-reading state p target).0 out))
          | inr later ↦ step.1 (inr later)
        ]),
      ))
