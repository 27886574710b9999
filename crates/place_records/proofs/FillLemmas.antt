-- Records of sequences, one behind another.
use Rattle.std.proofs.Common.{◌≡◌, ℕ, ◌+◌, ◌^◌, ◌<◌, ◌≤◌, inl, inr, Bool, true, false, List, [], ◌∷◌, ◌++◌, map, length, drop, arith, refl, ap, ◌∙◌, subst, Some}
use Rattle.std.specs.List.{Contains, slice_get, slice_index}
use Rattle.std.proofs.lemmas.List.{length-append, length-map}
use Rattle.std.proofs.lemmas.List.Sums.{sum_by_more}
use Rattle.std.proofs.lemmas.Option.{slice_get_within}
use Rattle.std.proofs.lemmas.Bool.{cases_eq}
use Rattle.mine_model.specs.declared.item.Item.{Item}
use Rattle.mining_job.specs.declared.bound.Bound.{Bound}
use Rattle.mining_job.specs.Problems.{Problem, items_of}
use Rattle.std.proofs.lemmas.List.Elements.{Contains-append_cases}
use Rattle.mine_model.proofs.ListLemmas.{Contains-cases, Contains-none}
use Rattle.mine_model.proofs.ElementLemmas.{get-left, get_last, slice_get-mapped_by}
use Rattle.state_bits.proofs.NeighbourLemmas.{Has-none}
use Rattle.sequence_grids.specs.declared.places.Place.{Place}
use Rattle.sequence_grids.specs.Places.{AreKept}
use Rattle.sequence_grids.specs.declared.kinds.Kinds.{Kinds}
use Rattle.sequence_grids.specs.Columns.{AreColumns}
use Rattle.sequence_grids.specs.Grids.{GridList, items_at}
use Rattle.sequence_grids.specs.Kinds.{Extends, IsTarget, HasKind, row_at}
use Rattle.sequence_grids.specs.Tables.{ClassSets, TableValue}
use Rattle.sequence_grids.proofs.GridLemmas.{HasCell-of}
use Rattle.sequence_grids.proofs.KindLemmas.{once_by_rising, Extends-nothing}
use Rattle.walk_memo.specs.Moves.{MoveSets}
use Rattle.walk_places.specs.declared.places.Record.{Record}
use Rattle.place_records.specs.Records.{AreRecords, AreRanksAt, IsDead, IsRecordAt, NamesMoves, start_of}
use Rattle.place_records.specs.Ranks.{RanksValue, ranks_in, ranks_of, CanAskOf}
use Rattle.place_records.specs.Twins.{TwinSets, dead_move, dead_twin, move_in}
use Rattle.place_records.specs.Filled.{IsRecordBy, AreUpTo, AreHere, AreKnown, AreFilledTo, AreMade, wall_record}

pub IsRecordBy-grow : (problem : Problem) (bound : Bound) (twins after : List TwinSets) (kinds : Kinds) (t : Item) (rest : List Item) (entry : Record)
    → IsRecordBy problem bound twins kinds t rest entry → Extends twins after → IsRecordBy problem bound after kinds t rest entry
IsRecordBy-grow problem bound twins after kinds t rest entry is (more, grown) = record {
  kind_is = is.kind_is;
  twin = is.twin;
  there = rw grown (get-left twins more entry.of is.twin is.there);
  early_is = is.early_is;
  late_is = is.late_is;
}

pub AreUpTo-grow : (problem : Problem) (bound : Bound) (twins after : List TwinSets) (kinds : Kinds) (items : List Item) (places longer : List Record) (start count : ℕ)
    → AreUpTo problem bound twins kinds items places start count → Extends twins after → Extends places longer → AreUpTo problem bound after kinds items longer start count
AreUpTo-grow problem bound twins after kinds items places longer start count are grows (more, grown) position t below there =
    let (entry, found, is) = are position t below there in
    (entry, (rw grown (get-left places more (start + position) entry found)), IsRecordBy-grow problem bound twins after kinds t (drop (position + 1) items) entry is grows)

pub AreUpTo-more : (problem : Problem) (bound : Bound) (twins after : List TwinSets) (kinds : Kinds) (items : List Item) (places longer : List Record) (start count : ℕ) (entry : Record)
    → AreUpTo problem bound twins kinds items places start count → Extends twins after → longer ≡ places ++ entry ∷ [] → length places ≡ start + count
    → ((t : Item) → slice_get items count ≡ Some t → IsRecordBy problem bound after kinds t (drop (count + 1) items) entry)
    → AreUpTo problem bound after kinds items longer start (count + 1)
AreUpTo-more problem bound twins after kinds items places longer start count entry are grows pushed long is position t below there = elim (cases_eq position count) [
  | inl same ↦
      let last : slice_get longer (length places) ≡ Some entry = rw pushed (get_last places entry) in
      let at : length places ≡ start + position = omega (arith, long, same) in
      (entry, subst (λ (n : ℕ). slice_get longer n ≡ Some entry) at last, (rw same (is t (rw same at there))))
  | inr earlier ↦ AreUpTo-grow problem bound twins after kinds items places longer start count are grows (entry ∷ [], pushed) position t (omega (arith, below, earlier)) there
]

-- ---- the records name what has a number

pub Extends-long : {X : Type 0} (xs ys : List X) → Extends xs ys → length xs ≤ length ys
Extends-long xs ys (more, is) = let long : length ys ≡ length (xs ++ more) = ap length is in omega (arith, long, length-append xs more)

pub AreKnown-more : (twins after : List TwinSets) (places longer : List Record) (entry : Record) → AreKnown twins places → Extends twins after → longer ≡ places ++ entry ∷ []
    → entry.of < length after → AreKnown after longer
AreKnown-more twins after places longer entry known grows pushed inside other held =
    elim (Contains-append_cases places (entry ∷ []) other (subst (λ (ps : List Record). Contains ps other) pushed held)) [
      | inl before ↦ let below = known other before in omega (arith, below, Extends-long twins after grows)
      | inr last ↦ elim (Contains-cases entry [] other last) [ inl same ↦ rw same inside | inr none ↦ absurd (Contains-none other none) ]
    ]

-- what does nothing keeps its number
pub first-kept : (before after : List TwinSets) → slice_get before 0 ≡ Some dead_twin → Extends before after → slice_get after 0 ≡ Some dead_twin
first-kept before after first (more, is) = rw is (get-left before more 0 dead_twin first)

-- ---- the records of one sequence

pub AreHere-all : (problem : Problem) (bound : Bound) (twins : List TwinSets) (kinds : Kinds) (items : List Item) (places longer : List Record) (start count : ℕ)
    → AreUpTo problem bound twins kinds items places start count → length items ≡ count → longer ≡ places ++ wall_record ∷ [] → length places ≡ start + count
    → slice_get twins 0 ≡ Some dead_twin → AreHere problem bound twins kinds items longer start
AreHere-all problem bound twins kinds items places longer start count are all pushed long first = record {
  all = λ position t below there. AreUpTo-grow problem bound twins twins kinds items places longer start count are (Extends-nothing twins) (wall_record ∷ [], pushed) position t (omega (arith, below, all)) there;
  wall =
      let last : slice_get longer (length places) ≡ Some wall_record = rw pushed (get_last places wall_record) in
      let at : length places ≡ start + length items = omega (arith, long, all) in
      (wall_record, subst (λ (n : ℕ). slice_get longer n ≡ Some wall_record) at last, first);
}

pub AreHere-grow : (problem : Problem) (bound : Bound) (twins after : List TwinSets) (kinds : Kinds) (items : List Item) (places longer : List Record) (start : ℕ)
    → AreHere problem bound twins kinds items places start → Extends twins after → Extends places longer → AreHere problem bound after kinds items longer start
AreHere-grow problem bound twins after kinds items places longer start are grows extends = record {
  all = AreUpTo-grow problem bound twins after kinds items places longer start (length items) are.all grows extends;
  wall =
      let (more, grown) = extends in
      let (others, longer_list) = grows in
      let (entry, found, dead) = are.wall in
      (entry, (rw grown (get-left places more (start + length items) entry found)), (rw longer_list (get-left twins others entry.of dead_twin dead)));
}

-- ---- those of one more sequence

pub start_of-more : (part : GridList) (grid : ℕ) → grid < length part.sequences → start_of part (grid + 1) ≡ start_of part grid + (length (items_at part grid) + 1)
start_of-more part grid inside = sum_by_more (λ i. length (items_of part.problem i) + 1) part.sequences grid 0 inside

pub AreFilledTo-none : (part : GridList) (twins : List TwinSets) (kinds : Kinds) → AreFilledTo part twins kinds [] 0
AreFilledTo-none part twins kinds = record {
  long = refl;
  few = omega arith;
  known = λ entry held. absurd (Contains-none entry held);
  here = λ grid none. absurd (omega (arith, none));
}

pub AreFilledTo-more : (part : GridList) (twins after : List TwinSets) (kinds : Kinds) (places longer : List Record) (grid : ℕ) → AreFilledTo part twins kinds places grid
    → grid < length part.sequences → Extends twins after → Extends places longer → length longer ≡ length places + length (items_at part grid) + 1 → length longer < 2 ^ 32
    → AreKnown after longer → AreHere part.problem part.bound after kinds (items_at part grid) longer (length places)
    → AreFilledTo part after kinds longer (grid + 1)
AreFilledTo-more part twins after kinds places longer grid filled inside grows extends long few known here = record {
  long = let before = filled.long in omega (arith, long, before, start_of-more part grid inside);
  few = few;
  known = known;
  here = λ at below. elim (cases_eq at grid) [
    | inl same ↦ rw same (subst (AreHere part.problem part.bound after kinds (items_at part grid) longer) filled.long here)
    | inr earlier ↦ AreHere-grow part.problem part.bound twins after kinds (items_at part at) places longer (start_of part at) (filled.here at (omega (arith, below, earlier))) grows extends
  ];
}

-- ---- what is kept of grids

pub HasKind-same : (problem : Problem) (bound : Bound) (table : TableValue) (kinds after : Kinds) → after.columns ≡ kinds.columns → after.kinds ≡ kinds.kinds → after.ends ≡ kinds.ends → after.ranks ≡ kinds.ranks
    → (t : Item) (number : ℕ) → HasKind problem bound table.classes kinds t number → HasKind problem bound table.classes after t number
HasKind-same problem bound table kinds after columns same ends ranks t number (kind, found, is) = (kind, (rw same found), (rw (columns, ends, ranks) is))

pub AreKept-of : (problem : Problem) (bound : Bound) (table : TableValue) (kinds after : Kinds) (places : List Place) (ends sequences : List ℕ) → AreKept problem bound table kinds places ends sequences
    → after.columns ≡ kinds.columns → after.kinds ≡ kinds.kinds → after.ends ≡ kinds.ends → after.ranks ≡ kinds.ranks → AreKept problem bound table after places ends sequences
AreKept-of problem bound table kinds after places ends sequences are columns same kept_ends ranks = record {
  table_is = are.table_is;
  columns_are = rw columns are.columns_are;
  long = are.long;
  grids = λ index inside position within.
      let (below, (place, found, is)) = are.grids index inside position within in (
        below,
        (
          place,
          found,
          record {
            triple = is.triple;
            kind = λ t there. HasKind-same problem bound table kinds after columns same kept_ends ranks t place.kind (is.kind t there);
          },
        ),
      );
}

-- the records are those of other kinds, too, that differ in what serves to find more of them
module _ (problem : Problem) (bound : Bound) (kinds after : Kinds) (columns : after.columns ≡ kinds.columns) (same : after.kinds ≡ kinds.kinds) (ends : after.ends ≡ kinds.ends) (ranks : after.ranks ≡ kinds.ranks) where
  IsRecordBy-same : (twins : List TwinSets) (t : Item) (rest : List Item) (entry : Record) → IsRecordBy problem bound twins kinds t rest entry → IsRecordBy problem bound twins after t rest entry
  IsRecordBy-same twins t rest entry is = record {
    kind_is =
        let classes = is.kind_is.0 in
        (classes, HasKind-same problem bound (record { predecessors = []; classes = classes; triples = [] }) kinds after columns same ends ranks t entry.kind is.kind_is.1);
    twin = is.twin;
    there = is.there;
    early_is = is.early_is;
    late_is = is.late_is;
  }

  AreHere-same : (twins : List TwinSets) (items : List Item) (places : List Record) (start : ℕ) → AreHere problem bound twins kinds items places start → AreHere problem bound twins after items places start
  AreHere-same twins items places start are = record {
    all = λ position t below there. let (entry, found, is) = are.all position t below there in (entry, found, IsRecordBy-same twins t (drop (position + 1) items) entry is);
    wall = are.wall;
  }

  pub AreMade-same : (sequences : List ℕ) (places : List Record) (early late : List MoveSets) → AreMade problem bound kinds sequences places early late → AreMade problem bound after sequences places early late
  AreMade-same sequences places early late made =
      let part : GridList = record { problem = problem; bound = bound; sequences = sequences } in
      let filled = made.filled in
      record {
        twins = made.twins;
        filled = record { long = filled.long; few = filled.few; known = filled.known; here = λ grid below. AreHere-same made.twins (items_at part grid) places (start_of part grid) (filled.here grid below) };
        early_are = made.early_are;
        late_are = made.late_are;
      }

-- ---- the records of a part

dead_is : IsDead dead_move
dead_is = record {
  silent = λ k has. Has-none k has;
  writes = λ k has. Has-none k has;
  more = λ k has. Has-none k has;
  unseen = λ k has. Has-none k has;
  ends = λ k has. Has-none k has;
}

module _ (part : GridList) (twins : List TwinSets) (kinds : Kinds) (places : List Record) (early late : List MoveSets) (columns : AreColumns part.problem.transducer.labels kinds.columns.numbers.items kinds.columns.heads.items)
    (filled : AreFilledTo part twins kinds places (length part.sequences))
    (early_are : early ≡ map (move_in false) twins) (late_are : late ≡ map (move_in true) twins) (keeps : Bool) where
  abbrev pub table : RanksValue
  table = record { kinds = kinds; keeps = keeps }

  names : (entry : Record) (twin : TwinSets) → slice_get twins entry.of ≡ Some twin → NamesMoves early late entry twin.early twin.late
  names entry twin there = record {
    early_is = rw early_are (slice_get-mapped_by (move_in false) twins entry.of twin there);
    late_is = rw late_are (slice_get-mapped_by (move_in true) twins entry.of twin there);
  }

  ranks_are : (t : Item) (number k : ℕ) (classes : List ClassSets) → HasKind part.problem part.bound classes kinds t number → IsTarget part.problem k
      → AreRanksAt part.problem part.bound t (ranks_of table) number k
  ranks_are t number k classes (kind, found, is) target =
      let cell = is.cells k target in
      let same : ranks_of table number k ≡ row_at kinds.ends.items kinds.ranks.items kind.base (slice_index kinds.columns.numbers.items k) = ap (λ o. ranks_in kinds o k) found in
      record { exact = rw same cell.outputs; once = rw same (once_by_rising _ cell.rising) }

  record_at : (t : Item) (rest : List Item) (entry : Record) → IsRecordBy part.problem part.bound twins kinds t rest entry
      → IsRecordAt part.problem part.bound t rest early late (ranks_of table) (CanAskOf table) entry
  record_at t rest entry is = record {
    before = is.twin.early;
    behind = is.twin.late;
    names = names entry is.twin is.there;
    asked = λ k target.
        let classes = is.kind_is.0 in
        HasCell-of part.problem part.bound (record { predecessors = []; classes = classes; triples = [] }) kinds t entry.kind k columns is.kind_is.1 target;
    ranks_are = λ k target. ranks_are t entry.kind k is.kind_is.0 is.kind_is.1 target;
    early_is = is.early_is;
    late_is = is.late_is;
  }

  pub AreRecords-of : AreRecords part places early late (ranks_of table) (CanAskOf table)
  AreRecords-of =
      let long_early : length early ≡ length twins = ap length early_are ∙ length-map twins (move_in false) in
      let long_late : length late ≡ length twins = ap length late_are ∙ length-map twins (move_in true) in
      record {
        long = filled.long;
        few = filled.few;
        same = omega (arith, long_early, long_late);
        known = λ entry held. let inside = filled.known entry held in (omega (arith, inside, long_early), omega (arith, inside, long_late));
        at = λ grid position t below there.
            let here = filled.here grid below in
            let within = slice_get_within (items_at part grid) position t there in
            let (entry, found, is) = here.all position t within there in
            (entry, found, record_at t (drop (position + 1) (items_at part grid)) entry is);
        wall = λ grid below. let (entry, found, dead) = (filled.here grid below).wall in (entry, dead_move, dead_move, found, names entry dead_twin dead, dead_is, dead_is);
      }
