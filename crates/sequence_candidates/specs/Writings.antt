-- What a path of the transducer writes from a state.
use Rattle.std.specs.Prelude.{◌≡◌, ℕ, ◌+◌, ◌≤◌, ◌<◌, Bool, ◌⊎◌, IsTrue, List, length, drop, Contains}
use Rattle.std.specs.List.{AllByRecursion}
use Rattle.mine_model.specs.declared.item.Item.{Item}
use Rattle.mine_model.specs.Ranks.{AreRanked}
use Rattle.fst_compile.specs.Transducer.{IsPath}
use Rattle.mining_job.specs.declared.bound.Bound.{Bound}
use Rattle.mining_job.specs.Problems.{Problem}
use Rattle.place_walk.specs.declared.stand.Stand.{Stand}
use Rattle.place_records.specs.Records.{start_of}
use Rattle.sequence_grids.specs.Grids.{GridList, IsAllowed, HoldsNeeded, items_at}

-- a path from the state over the rest of a sequence writes the items with these ranks, all of them allowed,
-- and what is needed was seen or is among them
pub record WritesRanks (problem : Problem) (bound : Bound) (rest : List Item) (state : ℕ) (seen : Bool)
    (list : List ℕ) : Type 0 where
  pub output : List Item
  pub ranked : AreRanked problem.ranking.order output list
  pub path : IsPath problem.hierarchy.links problem.transducer state rest output
  pub allowed : AllByRecursion (IsAllowed problem.ranking bound) output
  pub needed : IsTrue seen ⊎ HoldsNeeded problem.ranking bound.need output

-- the place is that of a position in the sequence of a grid, and such a path goes from the state there
pub record WritesFrom (part : GridList) (seen : Bool) (list : List ℕ) (place state : ℕ) : Type 0 where
  pub grid : ℕ
  pub position : ℕ
  pub known : grid < length part.sequences
  pub within : position ≤ length (items_at part grid)
  pub place_is : place ≡ start_of part grid + position
  pub writes : WritesRanks part.problem part.bound (drop position (items_at part grid)) state seen list

-- so from one of the stands
abbrev pub AreWrittenFrom : GridList → Bool → List ℕ → List Stand → Type 0
AreWrittenFrom part seen list stands =
    (stand : Stand) × Contains stands stand × WritesFrom part seen list stand.place stand.state
