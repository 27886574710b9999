-- Records, while a part's sequences are gone over.
use Rattle.std.specs.Prelude.{◌≡◌, ℕ, ◌+◌, ◌<◌, ◌^◌, false, true, List, map, length, drop, slice_get, slice_index, Some, Contains}
use Rattle.mine_model.specs.declared.item.Item.{Item}
use Rattle.mining_job.specs.declared.bound.Bound.{Bound}
use Rattle.mining_job.specs.Problems.{Problem, items_of}
use Rattle.sequence_grids.specs.declared.kinds.Kinds.{Kinds}
use Rattle.sequence_grids.specs.declared.places.Place.{Place}
use Rattle.sequence_grids.specs.Columns.{AreColumns}
use Rattle.sequence_grids.specs.Grids.{GridList, items_at}
use Rattle.sequence_grids.specs.Tables.{ClassSets, TableValue}
use Rattle.sequence_grids.specs.Kinds.{IsTarget, HasKind}
use Rattle.sequence_grids.specs.Places.{IsTableOf, ArePlaces}
use Rattle.walk_memo.specs.Moves.{MoveSets}
use Rattle.walk_places.specs.declared.places.Record.{Record}
use Rattle.place_records.specs.Twins.{TwinSets, dead_twin, move_in}
use Rattle.place_records.specs.Records.{IsMoveAt, start_of}

-- the record has the kind of t, and names what its place does
pub record IsRecordBy (problem : Problem) (bound : Bound) (twins : List TwinSets) (kinds : Kinds) (t : Item)
    (rest : List Item) (entry : Record)
    : Type 0 where
  pub kind_is : (classes : List ClassSets) × HasKind problem bound classes kinds t entry.kind
  pub twin : TwinSets
  pub there : slice_get twins entry.of ≡ Some twin
  pub early_is : (k : ℕ) → IsTarget problem k → IsMoveAt problem bound false t rest twin.early k
  pub late_is : (k : ℕ) → IsTarget problem k → IsMoveAt problem bound true t rest twin.late k

-- so many of the items have their records from the start on
abbrev pub AreUpTo : Problem → Bound → List TwinSets → Kinds → List Item → List Record → ℕ → ℕ → Type 0
AreUpTo problem bound twins kinds items places start count =
    (position : ℕ) (t : Item) → position < count → slice_get items position ≡ Some t
    → (entry : Record) × (slice_get places (start + position) ≡ Some entry)
    × IsRecordBy problem bound twins kinds t (drop (position + 1) items) entry

-- the record of a place where nothing is done
abbrev pub wall_record : Record
wall_record = record { kind = 0; of = 0 }

-- all have them, and a dead one is behind them
pub record AreHere (problem : Problem) (bound : Bound) (twins : List TwinSets) (kinds : Kinds)
    (items : List Item) (places : List Record) (start : ℕ)
    : Type 0 where
  pub all : AreUpTo problem bound twins kinds items places start (length items)
  pub wall : (entry : Record) × (slice_get places (start + length items) ≡ Some entry)
      × (slice_get twins entry.of ≡ Some dead_twin)

-- the records name what has a number
abbrev pub AreKnown : List TwinSets → List Record → Type 0
AreKnown twins places = (entry : Record) → Contains places entry → entry.of < length twins

-- the records of the first so many sequences, one behind another
pub record AreFilledTo (part : GridList) (twins : List TwinSets) (kinds : Kinds) (places : List Record)
    (count : ℕ)
    : Type 0 where
  pub long : length places ≡ start_of part count
  pub few : length places < 2 ^ 32
  pub known : AreKnown twins places
  pub here : (grid : ℕ) → grid < count
      → AreHere part.problem part.bound twins kinds (items_at part grid) places (start_of part grid)

-- those of all
abbrev pub AreFilled : Problem → Bound → List TwinSets → Kinds → List ℕ → List Record → Type 0
AreFilled problem bound twins kinds sequences places =
    AreFilledTo (record { problem = problem; bound = bound; sequences = sequences }) twins kinds places
    (length sequences)

-- the records of all, and the moves that they name
pub record AreMade (problem : Problem) (bound : Bound) (kinds : Kinds) (sequences : List ℕ)
    (places : List Record) (early late : List MoveSets)
    : Type 0 where
  pub twins : List TwinSets
  pub filled : AreFilled problem bound twins kinds sequences places
  pub early_are : early ≡ map (move_in false) twins
  pub late_are : late ≡ map (move_in true) twins
