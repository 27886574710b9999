-- The way of a prefix through one sequence.
use Rattle.std.specs.Prelude.{◌≡◌, ℕ, zero, suc, ◌+◌, ◌≤◌, Bool, ◌⊎◌, ◌↔◌, IsTrue, Some, List, [], drop, slice_get, AllPairs, Contains}
use Rattle.mine_model.specs.declared.item.Item.{Item}
use Rattle.fst_compile.specs.Transducer.{Leads}
use Rattle.mining_job.specs.declared.bound.Bound.{Bound}
use Rattle.mining_job.specs.Problems.{Problem}
use Rattle.sequence_grids.specs.Grids.{HoldsNeeded, Completes, Continues, Reads, WritesRank}
use Rattle.sequence_grids.specs.Successors.{LeadsFrom}
use Rattle.snapshot_project.specs.declared.snapshot.Snapshot.{Snapshot}
use Rattle.snapshot_project.specs.Snapshots.{HasSnapshot, WritesOn}
use Rattle.snapshot_project.specs.Aims.{sees}

-- one of the snapshots stands at the position, in the state
abbrev pub StandsIn : List Snapshot → ℕ → ℕ → Type 0
StandsIn group position state =
    (snapshot : Snapshot) × Contains group snapshot × (snapshot.position ≡ position)
    × (snapshot.state ≡ state)

-- the snapshots are snapshots of the prefix in these items, by rising position, and among them are all from
-- which more can be written
pub record AreGroupOf (problem : Problem) (bound : Bound) (items prefix : List Item) (seen : Bool)
    (group : List Snapshot)
    : Type 0 where
  pub seen_is : IsTrue seen ↔ HoldsNeeded problem.ranking bound.need prefix
  pub rising : AllPairs (λ first second. first.position ≤ second.position) group
  pub right : (position state : ℕ) → StandsIn group position state
      → HasSnapshot problem bound items prefix position state
  pub all : (position state : ℕ) → HasSnapshot problem bound items prefix position state
      → WritesOn problem bound prefix (drop position items) state → StandsIn group position state

-- An edge that writes nothing leads to the state at the position from one before it, where a snapshot stands
-- or to which such an edge leads; and a path goes on as it has to.
abbrev pub Arrives : Problem → Bound → List Item → List Snapshot → Bool → ℕ → ℕ → Type 0
Arrives problem bound items group goes zero state = ⊥
Arrives problem bound items group goes (suc before) state =
    (t : Item) × (from : ℕ) × (slice_get items before ≡ Some t)
    × ((Arrives problem bound items group goes before from ⊎ StandsIn group before from)
    × Continues problem bound (drop before items) from goes)
    × Leads problem.transducer from state × Reads problem t state []
    × Continues problem bound (drop (before + 1) items) state goes

-- a snapshot stands at the position in the state, or such an edge leads to it; and a path goes on as it has
-- to
abbrev pub IsUseful : Problem → Bound → List Item → List Snapshot → Bool → ℕ → ℕ → Type 0
IsUseful problem bound items group goes position state =
    (Arrives problem bound items group goes position state ⊎ StandsIn group position state)
    × Continues problem bound (drop position items) state goes

-- an edge from a live state writes the rank at t, and a path completes over the rest
abbrev pub WritesFrom : Problem → Bound → ℕ → Item → List Item → Bool → ℕ → ℕ → Type 0
WritesFrom problem bound live t rest seen rank state =
    LeadsFrom problem.transducer live state × WritesRank problem bound t state rank
    × Completes problem bound rest state (sees seen bound.need rank)
