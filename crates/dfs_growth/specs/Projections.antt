-- What a node keeps of its prefix: a part and where its snapshots stand in it, the projected database of the
-- DESQ article.
use Rattle.std.specs.Prelude.{◌≡◌, ℕ, ◌≤◌, IfSome, List, [], length}
use Rattle.std.specs.Arc.{arc_value}
use Rattle.mining_job.specs.declared.part_seed.PartSeed.{PartSeed}
use Rattle.mining_job.specs.Problems.{Problem}
use Rattle.sequence_grids.specs.Grids.{GridList}
use Rattle.sequence_grids.specs.Wholes.{IsWholeAlphabet}
use Rattle.mining_job.specs.Parts.{pivot_of, IsComplete}
use Rattle.snapshot_project.specs.Snapshots.{part_for}
use Rattle.snapshot_project.specs.Rooms.{RoomValue}
use Rattle.snapshot_project.specs.Stands.{StandList, IsProjected}
use Rattle.dfs_growth.specs.declared.state.State.{State}
use Rattle.dfs_growth.specs.declared.state.State.TheVariants.{Root, Projected}
use Rattle.dfs_growth.specs.Nodes.{Prefix, prefix_at}

-- the part of a complete seed with the pivot, or 0
pub record IsPartBy (problem : Problem) (pivot : ℕ) (part : GridList) : Type 0 where
  pub seed : PartSeed
  pub complete : IsComplete problem seed
  pub pivot_is : pivot_of seed.pivot ≡ pivot
  pub part_is : part ≡ part_for problem seed

-- there is room for all ranks of the problem, and the part that is known is one of it
pub record IsRoomFor (problem : Problem) (room : RoomValue) : Type 0 where
  pub most : length problem.ranking.order ≤ room.ranks
  pub known : IfSome room.part (λ part. (pivot : ℕ) × IsPartBy problem pivot part)

-- the part is that of the pivot, and what is kept is told of the prefix
pub record IsProjection (prefix : Prefix) (part : GridList) (list : StandList) : Type 0 where
  pub part_by : IsPartBy prefix.problem prefix.pivot part
  pub projected : IsProjected part prefix.problem.threshold prefix.ranks list

-- the seed is that of the pivot, and the prefix is empty
pub record IsRootOf (prefix : Prefix) (seed : PartSeed) : Type 0 where
  pub complete : IsComplete prefix.problem seed
  pub pivot_is : pivot_of seed.pivot ≡ prefix.pivot
  pub empty : prefix.ranks ≡ []

-- the state is that of the node; that of a root has the alphabet of the problem
abbrev pub IsStateOf : Prefix → State → Type 0
IsStateOf prefix (Root seed alphabet) =
    IsRootOf prefix seed × IsWholeAlphabet prefix.problem (arc_value alphabet)
IsStateOf prefix (Projected part list) = IsProjection prefix part list

-- the label has a pivot, or 0, in front, and the state is that of the node with the label
abbrev pub IsNode : Problem → List ℕ → State → Type 0
IsNode problem label state = (1 ≤ length label) × IsStateOf (prefix_at problem label) state
