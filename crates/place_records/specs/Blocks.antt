-- The records of those sequences of a range that complete.
use Rattle.std.specs.Prelude.{◌≡◌, ℕ, ◌≤◌, ◌<◌, ◌↔◌, false, List, length, slice_get, slice_index, Some, AllPairs, Contains}
use Rattle.mining_job.specs.declared.bound.Bound.{Bound}
use Rattle.mining_job.specs.Problems.{Problem, items_of}
use Rattle.sequence_grids.specs.declared.kinds.Kinds.{Kinds}
use Rattle.sequence_grids.specs.Grids.{Completes}
use Rattle.sequence_grids.specs.Kinds.{AreKinds}
use Rattle.sequence_grids.specs.Places.{IsTableOf}
use Rattle.walk_places.specs.declared.places.Record.{Record}
use Rattle.place_records.specs.Records.{goes_with}
use Rattle.place_records.specs.Twins.{TwinSets, dead_twin}
use Rattle.place_records.specs.Numbers.{TwinsValue}
use Rattle.place_records.specs.Filled.{AreFilled}

-- the twins are over a table of the problem that has the classes of the kinds, and the first one is dead
pub record IsOver (problem : Problem) (bound : Bound) (kinds : Kinds) (twins : TwinsValue) : Type 0 where
  pub table_is : IsTableOf problem twins.table
  pub kinds_are : AreKinds problem bound twins.table.classes kinds
  pub needed_is : twins.needed ≡ goes_with bound.need
  pub first : slice_get twins.twins 0 ≡ Some dead_twin

-- the names, one for each of a list of twins, are numbers of the same ones in another list
pub record AreNames (own all : List TwinSets) (names : List ℕ) : Type 0 where
  pub long : length names ≡ length own
  pub same : (number : ℕ) (twin : TwinSets) → slice_get own number ≡ Some twin
      → slice_get all (slice_index names number) ≡ Some twin

-- the sequences from one number to before another that complete, in order, and their records
pub record IsBlock (problem : Problem) (bound : Bound) (kinds : Kinds) (from to : ℕ) (twins : List TwinSets)
    (sequences : List ℕ) (places : List Record)
    : Type 0 where
  pub rising : AllPairs (λ low high. low < high) sequences
  pub exact : (i : ℕ) → Contains sequences i
      ↔ ((from ≤ i) × (i < to) × Completes problem bound (items_of problem i) 0 false)
  pub filled : AreFilled problem bound twins kinds sequences places
