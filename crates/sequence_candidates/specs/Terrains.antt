-- What a part keeps of its sequences.
use Rattle.std.specs.Prelude.{◌≡◌, ℕ, ◌<◌, Bool, true, false, if◌then◌else◌, Option, Some, None, IfSome, List, [], ◌∷◌, length, slice_get}
use Rattle.sequence_grids.specs.Grids.{GridList}
use Rattle.place_records.specs.Records.{start_of}
use Rattle.place_records.specs.Ranks.{ranks_of}
use Rattle.place_records.specs.Values.{RecordsValue, moves_for}
use Rattle.snapshot_project.specs.Aims.{goes}
use Rattle.snapshot_project.specs.Snapshots.{IsPart}
use Rattle.snapshot_project.specs.Terrains.{IsGround}
use Rattle.candidate_graph.specs.Courses.{Courses}
use Rattle.candidate_graph.specs.Graphs.{Standpoint, Node, points_of, IsGraph}
use Rattle.sequence_candidates.specs.declared.terrain.Terrain.{Terrain}
use Rattle.sequence_candidates.specs.declared.terrain.AnyTerrain.{AnyTerrain}
use Rattle.sequence_candidates.specs.declared.terrain.AnyTerrain.TheVariants.{Unknown, One, Four, Wide}

-- what paths go over: where what is needed was seen the moves of paths that need not write it, and else of
-- those that have to
abbrev pub courses_over : List ℕ → RecordsValue → Option ℕ → Courses
courses_over rows value need = record {
  rows = rows;
  places = value.places;
  moves = λ seen. if goes seen need then value.late else value.early;
}

-- what is needed was seen where nothing is
abbrev pub seen_first : Option ℕ → Bool
seen_first None = true
seen_first (Some need) = false

-- where the paths of the empty prefix stand
abbrev pub root_at : GridList → ℕ → Standpoint
root_at part index = record {
  seen = seen_first part.bound.need;
  stands = record { place = start_of part index; state = 0; first = true } ∷ [];
}

-- the records are those of the part, and the memos are of the rows of all states and the moves of the records
pub record IsTerrain {W : ℕ} (part : GridList) (terrain : Terrain W) : Type 0 where
  pub ground : IsGround W part terrain.early.rows terrain.records
  pub early : terrain.early.moves ≡ moves_for terrain.records false
  pub rows : terrain.late.rows ≡ terrain.early.rows
  pub late : terrain.late.moves ≡ moves_for terrain.records true

-- so where they are known; where they are not, there are no sequences
abbrev pub IsTerrainOf : GridList → AnyTerrain → Type 0
IsTerrainOf part Unknown = part.sequences ≡ []
IsTerrainOf part (One terrain) = IsTerrain part terrain
IsTerrainOf part (Four terrain) = IsTerrain part terrain
IsTerrainOf part (Wide terrain) = IsTerrain part terrain

-- the nodes are a graph over what the part keeps, and the first of them is that of the empty prefix
pub record IsBegun (part : GridList) (rows : List ℕ) (value : RecordsValue) (index : ℕ) (nodes : List Node)
    : Type 0 where
  pub known : index < length part.sequences
  pub graph : IsGraph (courses_over rows value part.bound.need) (ranks_of value.table) part.bound.need nodes
  pub root : slice_get (points_of nodes) 0 ≡ Some (root_at part index)

abbrev pub IsBegunOn : {W : ℕ} → GridList → Terrain W → ℕ → List Node → Type 0
IsBegunOn part terrain index nodes = IsBegun part terrain.early.rows terrain.records index nodes

abbrev pub IsBegunOver : GridList → AnyTerrain → ℕ → List Node → Type 0
IsBegunOver part Unknown index nodes = ⊥
IsBegunOver part (One terrain) index nodes = IsBegunOn part terrain index nodes
IsBegunOver part (Four terrain) index nodes = IsBegunOn part terrain index nodes
IsBegunOver part (Wide terrain) index nodes = IsBegunOn part terrain index nodes

-- so over the terrain of a part that needs this, with room for all ranks
pub record IsOn {W : ℕ} (part : GridList) (need : Option ℕ) (terrain : Terrain W) (index room : ℕ)
    (nodes : List Node) : Type 0 where
  pub part_is : IsPart part
  pub need_is : part.bound.need ≡ need
  pub terrain_is : IsTerrain part terrain
  pub room_is : length part.problem.ranking.order < room
  pub begun_is : IsBegunOn part terrain index nodes

-- the place where each of the first so many sequences begins
pub record AreStartsTo (part : GridList) (count : ℕ) (starts : List ℕ) : Type 0 where
  pub long : length starts ≡ count
  pub each : (index : ℕ) → index < count → slice_get starts index ≡ Some (start_of part index)

abbrev pub AreStarts : GridList → List ℕ → Type 0
AreStarts part starts = AreStartsTo part (length part.sequences) starts

-- what is kept of a part, with room for all ranks
pub record IsKept (part : GridList) (terrain : AnyTerrain) (starts : List ℕ) (begun : Option ℕ) (room : ℕ)
    (nodes : List Node) : Type 0 where
  pub part_is : IsPart part
  pub terrain_is : IsTerrainOf part terrain
  pub room_is : length part.problem.ranking.order < room
  pub starts_are : AreStarts part starts
  pub begun_is : IfSome begun (λ index. IsBegunOver part terrain index nodes)
