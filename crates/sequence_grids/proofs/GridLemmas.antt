-- Grids behind each other.
use Rattle.std.proofs.Common.{◌≡◌, ℕ, ◌+◌, ◌-◌, ◌<◌, ◌≤◌, ◌↔◌, inl, inr, Bool, true, false, List, [], ◌∷◌, ◌++◌, length, get_or, arith, refl, sym, ap, ◌∙◌, subst, Some, rules}
use Rattle.std.specs.List.{All, AllByRecursion, slice_get, slice_index}
use Rattle.std.proofs.Math.Seq.{get_or-append_seam}
use Rattle.std.proofs.lemmas.List.{get_or_append_left, length-append}
use Rattle.std.proofs.lemmas.List.Elements.{Contains-get_or}
use Rattle.std.proofs.lemmas.Option.{slice_get_within, slice_get-get_or, same_Some}
use Rattle.std.proofs.lemmas.Bool.{cases_eq}
use Rattle.mine_model.specs.declared.item.Item.{Item}
use Rattle.mine_model.specs.Support.{Sequence}
use Rattle.mine_model.proofs.ListLemmas.{AllByRecursion-contained, Contains-none}
use Rattle.mine_model.specs.Ranks.{AreRanked, Ranking}
use Rattle.state_bits.specs.Members.{Has}
use Rattle.fst_compile.specs.Transducer.{IsPath}
use Rattle.mining_job.specs.declared.bound.Bound.{Bound}
use Rattle.sequence_grids.specs.declared.kinds.Kinds.{Kinds}
use Rattle.sequence_grids.specs.declared.places.Place.{Place}
use Rattle.mining_job.specs.Problems.{Problem, IsWhole, items_of}
use Rattle.sequence_grids.specs.Grids.{IsAllowed, HoldsNeeded, Completes, Continues, GridList, items_at}
use Rattle.sequence_grids.specs.Columns.{AreColumns}
use Rattle.sequence_grids.specs.Tables.{TripleSets, TableValue, Grows, completing, continuing}
use Rattle.sequence_grids.specs.Kinds.{IsTarget, HasKind, HasCell, AreKinds, KindsGrow, Extends}
use Rattle.sequence_grids.specs.Places.{IsTripleOf, IsTableOf, IsPlaceAt, ArePlaces, AreKept, AreGrids}
use Rattle.sequence_grids.proofs.PlaceLemmas.{IsTableOf-grow, ArePlaces-grow}

-- the items of a sequence are items of the hierarchy
pub items_within : (problem : Problem) → IsWhole problem → (i : ℕ) → i < length problem.sequences → All (λ t. t.0 < problem.hierarchy.items) (items_of problem i)
items_within problem whole i inside =
    let none : Sequence Item = record { items = []; weight = 0 } in
    let all : AllByRecursion (λ t. t.0 < problem.hierarchy.items) (items_of problem i) =
    AllByRecursion-contained (λ (sequence : Sequence Item). AllByRecursion (λ t. t.0 < problem.hierarchy.items) sequence.items) problem.sequences (get_or problem.sequences i none) whole.items
    (Contains-get_or problem.sequences i none inside) in
    λ k d within. AllByRecursion-contained (λ t. t.0 < problem.hierarchy.items) (items_of problem i) (get_or (items_of problem i) k d) all (Contains-get_or (items_of problem i) k d within)

pub AreKept-none : (problem : Problem) (bound : Bound) (table : TableValue) (kinds : Kinds) → IsTableOf problem table
    → AreColumns problem.transducer.labels kinds.columns.numbers.items kinds.columns.heads.items → AreKept problem bound table kinds [] [] []
AreKept-none problem bound table kinds is are = record { table_is = is; columns_are = are; long = refl; grids = λ index none. absurd (omega arith) }

pub AreKept-grow : (problem : Problem) (bound : Bound) (table table' : TableValue) (kinds kinds' : Kinds) (places places' : List Place) (ends sequences : List ℕ)
    → AreKept problem bound table kinds places ends sequences → Grows table table' → KindsGrow kinds kinds' → Extends places places' → AreKept problem bound table' kinds' places' ends sequences
AreKept-grow problem bound table table' kinds kinds' places places' ends sequences are grows grow extends = record {
  table_is = IsTableOf-grow problem table table' are.table_is grows;
  columns_are = rw grow.columns are.columns_are;
  long = are.long;
  grids = λ index inside. ArePlaces-grow problem bound table table' kinds kinds' places places' (slice_index ends index) (items_of problem (slice_index sequences index)) (are.grids index inside) grows grow extends;
}

pub AreKept-more : (problem : Problem) (bound : Bound) (table : TableValue) (kinds : Kinds) (places : List Place) (ends sequences : List ℕ) (seq end : ℕ)
    → AreKept problem bound table kinds places ends sequences → ArePlaces problem bound table kinds places end (items_of problem seq)
    → AreKept problem bound table kinds places (ends ++ end ∷ []) (sequences ++ seq ∷ [])
AreKept-more problem bound table kinds places ends sequences seq end are one = record {
  table_is = are.table_is;
  columns_are = are.columns_are;
  long = let long = are.long in omega (arith, length-append ends (end ∷ []), length-append sequences (seq ∷ []));
  grids = λ index inside. elim (cases_eq index (length sequences)) [
    | inl last ↦
        let long = are.long in
        let same : index ≡ length ends = omega arith in
        let the_end : slice_index (ends ++ end ∷ []) index ≡ end = ap (slice_index (ends ++ end ∷ [])) same ∙ get_or-append_seam ends end [] 0 in
        let the_seq : slice_index (sequences ++ seq ∷ []) index ≡ seq = ap (slice_index (sequences ++ seq ∷ [])) last ∙ get_or-append_seam sequences seq [] 0 in
        rw (the_end, the_seq) one
    | inr early ↦
        let long = are.long in
        let below : index < length sequences = omega (arith, inside, length-append sequences (seq ∷ [])) in
        let below_end : index < length ends = omega arith in
        let the_end : slice_index (ends ++ end ∷ []) index ≡ slice_index ends index = get_or_append_left ends (end ∷ []) 0 index below_end in
        let the_seq : slice_index (sequences ++ seq ∷ []) index ≡ slice_index sequences index = get_or_append_left sequences (seq ∷ []) 0 index below in
        rw (the_end, the_seq) (are.grids index below)
  ];
}

-- the same of grids to which more are added

pub AreGrids-none : (problem : Problem) (bound : Bound) (table : TableValue) (kinds : Kinds) → IsTableOf problem table → AreKinds problem bound table.classes kinds
    → AreGrids problem bound table kinds [] [] []
AreGrids-none problem bound table kinds is are = record { kept = AreKept-none problem bound table kinds is are.columns_are; kinds_are = are }

pub AreGrids-grow : (problem : Problem) (bound : Bound) (table table' : TableValue) (kinds kinds' : Kinds) (places places' : List Place) (ends sequences : List ℕ)
    → AreGrids problem bound table kinds places ends sequences → Grows table table' → KindsGrow kinds kinds' → Extends places places' → AreKinds problem bound table'.classes kinds'
    → AreGrids problem bound table' kinds' places' ends sequences
AreGrids-grow problem bound table table' kinds kinds' places places' ends sequences are grows grow extends kinds_are =
    record { kept = AreKept-grow problem bound table table' kinds kinds' places places' ends sequences are.kept grows grow extends; kinds_are = kinds_are }

pub AreGrids-more : (problem : Problem) (bound : Bound) (table : TableValue) (kinds : Kinds) (places : List Place) (ends sequences : List ℕ) (seq end : ℕ)
    → AreGrids problem bound table kinds places ends sequences → ArePlaces problem bound table kinds places end (items_of problem seq)
    → AreGrids problem bound table kinds places (ends ++ end ∷ []) (sequences ++ seq ∷ [])
AreGrids-more problem bound table kinds places ends sequences seq end are one =
    record { kept = AreKept-more problem bound table kinds places ends sequences seq end are.kept one; kinds_are = are.kinds_are }

-- ---- one place of one grid

module _ (value : GridList) (problem : Problem) (bound : Bound) (table : TableValue) (kinds : Kinds) (places : List Place) (ends sequences : List ℕ)
    (view : record { problem = problem; bound = bound; sequences = sequences } ≡ value) (are : AreKept problem bound table kinds places ends sequences) (grid pos : ℕ)
    (in_grid : grid < length value.sequences) (in_pos : pos ≤ length (items_at value grid)) where
  in_sequences : grid < length sequences
  in_sequences = subst (λ (v : GridList). grid < length v.sequences) (sym view) in_grid

  in_items : pos ≤ length (items_of problem (slice_index sequences grid))
  in_items = subst (λ (v : GridList). pos ≤ length (items_at v grid)) (sym view) in_pos

  pub at_grid : grid < length ends
  at_grid = let long = are.long in let inside = in_sequences in omega arith

  pub at_end : pos < slice_index ends grid
  at_end = (are.grids grid in_sequences pos in_items).0

  pub at_place : slice_index ends grid - 1 - pos < length places
  at_place = let (below, (place, found, is)) = are.grids grid in_sequences pos in_items in slice_get_within places (slice_index ends grid - 1 - pos) place found

  pub the_place : (place : Place) → slice_get places (slice_index ends grid - 1 - pos) ≡ Some place → IsPlaceAt value.problem value.bound table kinds (items_at value grid) pos place
  the_place place found =
      let (below, (that, found_that, is)) = are.grids grid in_sequences pos in_items in
      let same : that ≡ place = same_Some that place (sym found_that ∙ found) in
      subst (λ (v : GridList). IsPlaceAt v.problem v.bound table kinds (items_at v grid) pos place) view
      (subst (IsPlaceAt problem bound table kinds (items_of problem (slice_index sequences grid)) pos) same is)

  pub states_are : length table.predecessors ≡ length value.problem.transducer.labels + 1
  states_are = subst (λ (v : GridList). length table.predecessors ≡ length v.problem.transducer.labels + 1) view are.table_is.states

  pub columns_of : AreColumns value.problem.transducer.labels kinds.columns.numbers.items kinds.columns.heads.items
  columns_of = subst (λ (v : GridList). AreColumns v.problem.transducer.labels kinds.columns.numbers.items kinds.columns.heads.items) view are.columns_are

pub both_ways : {A B C : Type 0} → A ↔ B → B ↔ C → A ↔ C
both_ways first second = ((λ a. second.0 (first.0 a)), (λ c. first.1 (second.1 c)))

-- the states of a triple that complete
pub completes_by : (problem : Problem) (bound : Bound) (rest : List Item) (triple : TripleSets) → IsTripleOf problem bound rest triple → (seen : Bool) (q : ℕ) → q ≤ length problem.transducer.labels
    → Has (completing triple seen) q ↔ Completes problem bound rest q seen
completes_by problem bound rest triple is true q state = is.seen q state
completes_by problem bound rest triple is false q state = is.unseen q state

-- what is needed is written, if it was not seen: so a path that completes then writes something
pub continues-unseen : (problem : Problem) (bound : Bound) (rest : List Item) (q : ℕ) → Completes problem bound rest q false ↔ Continues problem bound rest q false
continues-unseen problem bound rest q = (
  (λ (output, path, allowed, met). elim met [
    | inl no' ↦ absurd (search rules)
    | inr holds ↦ by output path allowed holds
  ]),
  (λ (v, more, path, allowed, met). (v ∷ more, path, allowed, met)),
)
  where
    by : (output : List Item) → IsPath problem.hierarchy.links problem.transducer q rest output → AllByRecursion (IsAllowed problem.ranking bound) output
        → HoldsNeeded problem.ranking bound.need output → Continues problem bound rest q false
    by [] path allowed (v, held, is) = absurd (Contains-none v held)
    by (v ∷ more) path allowed holds = (v, more, path, allowed, inr holds)

-- the states of a triple from which something can be written
pub continues_by : (problem : Problem) (bound : Bound) (rest : List Item) (triple : TripleSets) → IsTripleOf problem bound rest triple → (seen : Bool) (q : ℕ) → q ≤ length problem.transducer.labels
    → Has (continuing triple seen) q ↔ Continues problem bound rest q seen
continues_by problem bound rest triple is true q state = is.more q state
continues_by problem bound rest triple is false q state = both_ways (is.unseen q state) (continues-unseen problem bound rest q)

-- the outputs of a kind at a state
pub HasCell-of : (problem : Problem) (bound : Bound) (table : TableValue) (kinds : Kinds) (t : Item) (number k : ℕ) → AreColumns problem.transducer.labels kinds.columns.numbers.items kinds.columns.heads.items
    → HasKind problem bound table.classes kinds t number → IsTarget problem k → HasCell kinds number k
HasCell-of problem bound table kinds t number k columns (kind, found, is) target =
    let all = columns.all in
    let high = target.1 in
    (kind, found, omega arith, (is.cells k target).inside)

pub item_there : (items : List Item) (pos : ℕ) → pos < length items → (t : Item) × (slice_get items pos ≡ Some t)
item_there items pos inside = let d : Item = record { 0 = 0 } in (get_or items pos d, slice_get-get_or items pos d inside)

-- items that are allowed have ranks
pub allowed-ranked : (ranking : Ranking) (bound : Bound) (items : List Item) → AllByRecursion (IsAllowed ranking bound) items
    → (list : List ℕ) × AreRanked ranking.order items list
allowed-ranked ranking bound [] allowed = ([], tt)
allowed-ranked ranking bound (v ∷ items) ((rank, has, few), allowed) =
    let (list, ranked) = allowed-ranked ranking bound items allowed in
    (rank ∷ list, (has, ranked))
