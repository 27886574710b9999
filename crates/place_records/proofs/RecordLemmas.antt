-- The record of an item, from its kind, its class and the triple behind it.
use Rattle.std.proofs.Common.{◌≡◌, ℕ, ◌+◌, ◌-◌, ◌<◌, ◌↔◌, Bool, true, false, List, length, drop, arith, sym, ap, ◌∙◌, subst, Some}
use Rattle.std.specs.Bool.{IsTrue}
use Rattle.std.specs.List.{slice_get}
use Rattle.std.proofs.lemmas.Option.{slice_get_within, same_Some}
use Rattle.mine_model.specs.declared.item.Item.{Item}
use Rattle.mine_model.proofs.ElementLemmas.{get-some}
use Rattle.mining_job.specs.declared.bound.Bound.{Bound}
use Rattle.mining_job.specs.Problems.{Problem}
use Rattle.state_bits.specs.Members.{Has}
use Rattle.sequence_grids.specs.declared.kinds.Kind.{Kind}
use Rattle.sequence_grids.specs.declared.kinds.Kinds.{Kinds}
use Rattle.sequence_grids.specs.declared.places.Place.{Place}
use Rattle.sequence_grids.specs.Grids.{Completes, Continues}
use Rattle.sequence_grids.specs.Kinds.{IsClassFor, IsTarget, HasKind}
use Rattle.sequence_grids.specs.Tables.{ClassSets, TripleSets, TableValue, completing, continuing}
use Rattle.sequence_grids.specs.Places.{IsTripleOf, HasTriple, IsPlaceAt, ArePlaces}
use Rattle.sequence_grids.proofs.GridLemmas.{completes_by, continues_by, both_ways}
use Rattle.walk_memo.specs.Moves.{MoveSets}
use Rattle.place_records.specs.Records.{IsMoveAt, goes_with}
use Rattle.place_records.specs.Twins.{IsMoveOf, IsTwinOf}
use Rattle.place_records.specs.Numbers.{TwinsValue, HasTwin}
use Rattle.place_records.specs.Filled.{IsRecordBy}

both_parts : {A B C D : Type 0} → A ↔ C → B ↔ D → (A × B) ↔ (C × D)
both_parts first second = ((λ h. (first.0 h.0, second.0 h.1)), (λ h. (first.1 h.0, second.1 h.1)))

-- what is so where a state is written into
where_written : {W M B C : Type 0} → M ↔ (W × B) → B ↔ C → W → M ↔ C
where_written more is written = ((λ m. is.0 (more.0 m).1), (λ c. more.1 (written, is.1 c)))

-- what the class and the triple say of a state is what t and the rest say
pub move_at : (problem : Problem) (bound : Bound) (t : Item) (rest : List Item) (class : ClassSets) (triple : TripleSets) (needed goes : Bool) (move : MoveSets) (k : ℕ)
    → IsClassFor problem bound t class → IsTripleOf problem bound rest triple → needed ≡ goes_with bound.need → IsTarget problem k → IsMoveOf needed goes class triple move k
    → IsMoveAt problem bound goes t rest move k
move_at problem bound t rest class triple needed goes move k of_class of_triple same target is =
    let continues : (seen : Bool) → Has (continuing triple seen) k ↔ Continues problem bound rest k seen = λ seen. continues_by problem bound rest triple of_triple seen k target.1 in
    record {
      silent = both_ways is.silent (both_parts (of_class.silent k target) (continues goes));
      writes = both_ways is.writes (both_parts (of_class.writes k target) (of_triple.seen k target.1));
      more = where_written is.more (rw same (continues (goes_with bound.need)));
      unseen = where_written is.unseen (of_triple.unseen k target.1);
      ends = where_written is.ends (of_triple.ends k target.1);
    }

-- the record of t before the rest
pub record_by : (problem : Problem) (bound : Bound) (table : TableValue) (twins : TwinsValue) (kinds : Kinds) (t : Item) (rest : List Item) (kind : Kind) (number of behind : ℕ)
    → twins.table ≡ table → twins.needed ≡ goes_with bound.need → length table.predecessors ≡ length problem.transducer.labels + 1
    → HasKind problem bound table.classes kinds t number → slice_get kinds.kinds.items number ≡ Some kind → HasTriple problem bound table.triples rest behind → HasTwin twins kind.class behind of
    → IsRecordBy problem bound twins.twins kinds t rest (record { kind = number; of = of })
record_by problem bound table twins kinds t rest kind number of behind same_table same states (that, found_that, is_kind) found (triple, found_triple, is_triple) (c, b, twin, at_c, at_b, at_twin, is) =
    let that_kind : that ≡ kind = same_Some that kind (sym found_that ∙ found) in
    let (class, at_class, right) = is_kind.class in
    let class_there : slice_get twins.table.classes kind.class ≡ Some class =
    ap (λ (v : TableValue). slice_get v.classes kind.class) same_table ∙ (ap (λ (x : Kind). slice_get table.classes x.class) (sym that_kind) ∙ at_class) in
    let same_class : c ≡ class = same_Some c class (sym at_c ∙ class_there) in
    let triple_there : slice_get twins.table.triples behind ≡ Some triple = ap (λ (v : TableValue). slice_get v.triples behind) same_table ∙ found_triple in
    let same_triple : b ≡ triple = same_Some b triple (sym at_b ∙ triple_there) in
    let all_states : length twins.table.predecessors ≡ length problem.transducer.labels + 1 = ap (λ (v : TableValue). length v.predecessors) same_table ∙ states in
    let twin_is : IsTwinOf (length twins.table.predecessors) twins.needed class triple twin =
    subst (λ (x : TripleSets). IsTwinOf (length twins.table.predecessors) twins.needed class x twin) same_triple
    (subst (λ (x : ClassSets). IsTwinOf (length twins.table.predecessors) twins.needed x b twin) same_class is) in
    record {
      kind_is = (table.classes, (that, found_that, is_kind));
      twin = twin;
      there = at_twin;
      early_is = λ k target. move_at problem bound t rest class triple twins.needed false twin.early k right is_triple same target (twin_is.early_is k target.0 (let high = target.1 in omega (arith, all_states, high)));
      late_is = λ k target. move_at problem bound t rest class triple twins.needed true twin.late k right is_triple same target (twin_is.late_is k target.0 (let high = target.1 in omega (arith, all_states, high)));
    }

-- ---- where its place and the one behind it stand

module _ (problem : Problem) (bound : Bound) (table : TableValue) (kinds : Kinds) (kept : List Place) (end : ℕ) (items : List Item) (are : ArePlaces problem bound table kinds kept end items)
    (position : ℕ) (inside : position < length items) where
  pub before_end : position + 1 < end
  before_end = (are (position + 1) (omega (arith, inside))).0

  pub place_within : end - 1 - position < length kept
  place_within = let (_, (place, found, _)) = are position (omega (arith, inside)) in slice_get_within kept (end - 1 - position) place found

  pub place_is : (place : Place) → slice_get kept (end - 1 - position) ≡ Some place → IsPlaceAt problem bound table kinds items position place
  place_is place found =
      let (_, (that, found_that, is)) = are position (omega (arith, inside)) in
      subst (IsPlaceAt problem bound table kinds items position) (same_Some that place (sym found_that ∙ found)) is

  pub behind_within : end - 2 - position < length kept
  behind_within =
      let (_, (place, found, _)) = are (position + 1) (omega (arith, inside)) in
      let here : end - 1 - (position + 1) ≡ end - 2 - position = omega arith in
      subst (λ (n : ℕ). n < length kept) here (slice_get_within kept (end - 1 - (position + 1)) place found)

  pub behind_is : (place : Place) → slice_get kept (end - 2 - position) ≡ Some place → HasTriple problem bound table.triples (drop (position + 1) items) place.triple
  behind_is place found =
      let (_, (that, found_that, is)) = are (position + 1) (omega (arith, inside)) in
      let here : end - 2 - position ≡ end - 1 - (position + 1) = omega arith in
      let same : that ≡ place = same_Some that place (sym found_that ∙ (ap (slice_get kept) (sym here) ∙ found)) in
      subst (λ (p : Place). HasTriple problem bound table.triples (drop (position + 1) items) p.triple) same is.triple

  pub kind_of_place : (place : Place) → slice_get kept (end - 1 - position) ≡ Some place → (t : Item) × (slice_get items position ≡ Some t) × HasKind problem bound table.classes kinds t place.kind
  kind_of_place place found = let (t, there) = get-some items position inside in (t, there, (place_is place found).kind t there)

  pub kind_within : (place : Place) → slice_get kept (end - 1 - position) ≡ Some place → place.kind < length kinds.kinds.items
  kind_within place found = let (t, _, (kind, at_kind, _)) = kind_of_place place found in slice_get_within kinds.kinds.items place.kind kind at_kind

  pub class_within : (place : Place) (kind : Kind) → slice_get kept (end - 1 - position) ≡ Some place → slice_get kinds.kinds.items place.kind ≡ Some kind → kind.class < length table.classes
  class_within place kind found there =
      let (t, _, (that, at_kind, is)) = kind_of_place place found in
      let same : that ≡ kind = same_Some that kind (sym at_kind ∙ there) in
      let (class, at_class, _) = is.class in
      subst (λ (k : Kind). k.class < length table.classes) same (slice_get_within table.classes that.class class at_class)

  pub triple_within : (place : Place) → slice_get kept (end - 2 - position) ≡ Some place → place.triple < length table.triples
  triple_within place found = let (triple, at_triple, _) = behind_is place found in slice_get_within table.triples place.triple triple at_triple

  -- the record of the item there
  pub record_is : (twins : TwinsValue) (place behind : Place) (kind : Kind) (of : ℕ) → slice_get kept (end - 1 - position) ≡ Some place → slice_get kept (end - 2 - position) ≡ Some behind
      → slice_get kinds.kinds.items place.kind ≡ Some kind → length table.predecessors ≡ length problem.transducer.labels + 1 → twins.table ≡ table → twins.needed ≡ goes_with bound.need
      → HasTwin twins kind.class behind.triple of → (t : Item) → slice_get items position ≡ Some t
      → IsRecordBy problem bound twins.twins kinds t (drop (position + 1) items) (record { kind = place.kind; of = of })
  record_is twins place behind kind of found found_behind there states same needed twin t at_t =
      record_by problem bound table twins kinds t (drop (position + 1) items) kind place.kind of behind.triple same needed states ((place_is place found).kind t at_t) there (behind_is behind found_behind) twin

-- ---- the place of all items

module _ (problem : Problem) (bound : Bound) (table : TableValue) (kinds : Kinds) (kept : List Place) (end : ℕ) (items : List Item) (are : ArePlaces problem bound table kinds kept end items) where
  pub first_within : end - 1 < length kept
  first_within =
      let (_, (place, found, _)) = are 0 (omega arith) in
      let here : end - 1 - 0 ≡ end - 1 = omega arith in
      subst (λ (n : ℕ). n < length kept) here (slice_get_within kept (end - 1 - 0) place found)

  pub first_is : (place : Place) → slice_get kept (end - 1) ≡ Some place → HasTriple problem bound table.triples items place.triple
  first_is place found =
      let (_, (that, found_that, is)) = are 0 (omega arith) in
      let here : end - 1 - 0 ≡ end - 1 = omega arith in
      let same : that ≡ place = same_Some that place (sym found_that ∙ (ap (slice_get kept) here ∙ found)) in
      subst (λ (p : Place). HasTriple problem bound table.triples items p.triple) same is.triple

  pub first_triple : (place : Place) → slice_get kept (end - 1) ≡ Some place → place.triple < length table.triples
  first_triple place found = let (triple, there, _) = first_is place found in slice_get_within table.triples place.triple triple there

  pub some_place : 0 < end
  some_place = (are 0 (omega arith)).0

  -- whether the start completes
  pub first_completes : (place : Place) → slice_get kept (end - 1) ≡ Some place → (answer : Bool) → ((t : TripleSets) → slice_get table.triples place.triple ≡ Some t
      → (IsTrue answer ↔ Has (completing t false) 0)) → IsTrue answer ↔ Completes problem bound items 0 false
  first_completes place found answer answers =
      let (triple, there, is) = first_is place found in
      both_ways (answers triple there) (completes_by problem bound items triple is false 0 (omega arith))
