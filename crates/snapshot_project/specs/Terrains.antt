-- What a part keeps of its sequences for walks.
use Rattle.std.specs.Prelude.{◌≡◌, ℕ, ◌<◌, ◌↔◌, true, false, None, List, length, AllPairs, Contains}
use Rattle.mining_job.specs.declared.bound.Bound.{Bound}
use Rattle.mining_job.specs.Problems.{Problem, items_of}
use Rattle.place_walk.specs.declared.stand.Stand.{Stand}
use Rattle.sequence_grids.specs.Grids.{GridList, Completes, items_at}
use Rattle.sequence_grids.specs.Successors.{AreSuccessors}
use Rattle.place_records.specs.Records.{start_of, AreRecords}
use Rattle.place_records.specs.Ranks.{ranks_of, CanAskOf}
use Rattle.place_records.specs.Values.{RecordsValue}
use Rattle.snapshot_project.specs.declared.part.Ground.{Ground}
use Rattle.snapshot_project.specs.declared.terrain.Terrain.{Terrain}
use Rattle.snapshot_project.specs.declared.terrain.AnyTerrain.{AnyTerrain}
use Rattle.snapshot_project.specs.declared.terrain.AnyTerrain.TheVariants.{One, Four, Wide}
use Rattle.snapshot_project.specs.Snapshots.{IsPart, bound_of}
use Rattle.snapshot_project.specs.Grouped.{AreWeights}
use Rattle.snapshot_project.specs.Layouts.{MayHaveStarts}

-- the rows are the successors of all states, for which sets of so many words have room, and the records are
-- those of the part
pub record IsGround (width : ℕ) (part : GridList) (rows : List ℕ) (value : RecordsValue) : Type 0 where
  pub rows_are : AreSuccessors width part.problem.transducer rows
  pub records_are : AreRecords part value.places value.early value.late (ranks_of value.table)
      (CanAskOf value.table)

-- so in sets of one of the widths
abbrev pub IsTerrain : {W : ℕ} → GridList → Terrain W → Type 0
IsTerrain {W} part terrain = IsGround W part terrain.rows.items terrain.records

abbrev pub IsTerrainOf : GridList → AnyTerrain → Type 0
IsTerrainOf part (One terrain) = IsTerrain part terrain
IsTerrainOf part (Four terrain) = IsTerrain part terrain
IsTerrainOf part (Wide terrain) = IsTerrain part terrain

-- what a part keeps
pub record IsKept (part : GridList) (terrain : AnyTerrain) (weights starts : List ℕ) : Type 0 where
  pub part_is : IsPart part
  pub terrain_is : IsTerrainOf part terrain
  pub weights_are : AreWeights part weights
  pub starts_are : MayHaveStarts part starts

-- the part that is made of it
abbrev pub part_on : Ground → GridList
part_on made = record {
  problem = made.job.now;
  bound = made.bound;
  sequences = made.sequences.items;
}

-- a stand at the start of each sequence that has a pattern within the bound, and no other
pub record AreStarts (part : GridList) (count : ℕ) (starts : List Stand) : Type 0 where
  pub rising : AllPairs (λ one other. one.place < other.place) starts
  pub exact : (stand : Stand) → Contains starts stand
      ↔ ((grid : ℕ) × (grid < count)
      × (stand ≡ record { place = start_of part grid; state = 0; first = true })
      × Completes part.problem part.bound (items_at part grid) 0 false)

-- the numbers are those of all sequences that have a pattern within the bound, and rise
pub record AreAll (problem : Problem) (bound : Bound) (numbers : List ℕ) : Type 0 where
  pub rising : AllPairs (λ low high. low < high) numbers
  pub exact : (i : ℕ) → Contains numbers i
      ↔ ((i < length problem.sequences) × Completes problem bound (items_of problem i) 0 false)

-- the part of all sequences that have a pattern of frequent items
pub record IsWholePart (problem : Problem) (part : GridList) : Type 0 where
  pub problem_is : part.problem ≡ problem
  pub bound_is : part.bound ≡ bound_of (length problem.ranking.order) None
  pub sequences_are : AreAll problem part.bound part.sequences
