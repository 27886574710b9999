-- Where the snapshots of a prefix stand among the places of a part, one sequence behind another.
use Rattle.std.specs.Prelude.{◌≡◌, ℕ, ◌+◌, ◌<◌, ◌⊎◌, Bool, Option, Some, None, List, [], ◌∷◌, ◌++◌, map, AllPairs, Contains, slice_get}
use Rattle.std.specs.List.{AllZip}
use Rattle.mine_model.specs.Growth.{WeighAtLeast}
use Rattle.mining_job.specs.Problems.{items_of}
use Rattle.packed_snapshots.specs.declared.snapshot.PlainSnapshot.{PlainSnapshot}
use Rattle.packed_snapshots.specs.Packed.{IsPacked}
use Rattle.place_walk.specs.declared.stand.Stand.{Stand}
use Rattle.place_walk.specs.Groups.{IsGroup}
use Rattle.sequence_grids.specs.Grids.{GridList}
use Rattle.place_records.specs.Records.{start_of}
use Rattle.snapshot_project.specs.declared.next_rank.NextRank.{NextRank}
use Rattle.snapshot_project.specs.declared.snapshot.Snapshot.{Snapshot}
use Rattle.snapshot_project.specs.Snapshots.{SnapshotList, AreSnapshots}
use Rattle.snapshot_project.specs.Extensions.{sequences_of, GrowsBehind, AreNextRanks}

-- the stand is before the place of the snapshot, which is in the sequence of the grid, and in its state
pub record IsStandOf (part : GridList) (grid : ℕ) (snapshot : Snapshot) (stand : Stand) : Type 0 where
  pub sequence : slice_get part.sequences grid ≡ Some snapshot.sequence
  pub place : stand.place ≡ start_of part grid + snapshot.position
  pub state : stand.state ≡ snapshot.state

-- the stands are those of these snapshots of one sequence, and the first of them is marked
pub record IsGroupOf (part : GridList) (grid : ℕ) (snapshots : List Snapshot) (group : List Stand)
    : Type 0 where
  pub marked : IsGroup group
  pub are : AllZip (IsStandOf part grid) snapshots group

-- the stands are those of the snapshots, sequence by sequence, in these grids
abbrev pub AreStandsIn : GridList → List ℕ → List Snapshot → List Stand → Type 0
AreStandsIn part [] snapshots stands = (snapshots ≡ []) × (stands ≡ [])
AreStandsIn part (grid ∷ grids) snapshots stands =
    (here : List Snapshot) × (others : List Snapshot) × (snapshots ≡ here ++ others)
    × (group : List Stand) × (behind : List Stand) × (stands ≡ group ++ behind)
    × IsGroupOf part grid here group × AreStandsIn part grids others behind

-- in grids that rise
pub record AreStandsOf (part : GridList) (snapshots : List Snapshot) (stands : List Stand) : Type 0 where
  pub grids : List ℕ
  pub rising : AllPairs (λ low high. low < high) grids
  pub are : AreStandsIn part grids snapshots stands

-- no longer prefix is in sequences that weigh so much
abbrev pub IsLight : GridList → List ℕ → ℕ → Type 0
IsLight part ranks least =
    (rank : ℕ) → WeighAtLeast (GrowsBehind part (ranks ++ rank ∷ [])) (sequences_of part) least → ⊥

-- no sequence of the part has a longer prefix
abbrev pub IsLast : GridList → List ℕ → Type 0
IsLast part ranks =
    (i rank : ℕ) → Contains part.sequences i
    → GrowsBehind part (ranks ++ rank ∷ []) (items_of part.problem i) → ⊥

-- these are the ranks that can follow the prefix in sequences that weigh so much, and behind them nothing
-- more follows
pub record AreLastRanks (part : GridList) (least : ℕ) (ranks : List ℕ) (next : List NextRank) : Type 0 where
  pub are : AreNextRanks part ranks least next
  pub last : (n : NextRank) → Contains next n → IsLast part (ranks ++ n.rank ∷ [])

-- the snapshot with what its prefix has seen, which is of no part
abbrev pub plain : Bool → Snapshot → PlainSnapshot
plain seen snapshot = record {
  sequence = snapshot.sequence;
  position = snapshot.position;
  state = snapshot.state;
  seen = seen;
}

-- what is kept of a prefix: whether it holds what is needed, what it weighs by itself, and its stands; or
-- what follows it, where that is told, or the bytes of its snapshots
pub record StandList : Type 0 where
  pub seen : Bool
  pub support : ℕ
  pub stands : List Stand
  pub next : Option (List NextRank)
  pub bytes : Option (List ℕ)

-- the stands, and no more
abbrev pub standing : Bool → ℕ → List Stand → StandList
standing seen support stands = record {
  seen = seen;
  support = support;
  stands = stands;
  next = None;
  bytes = None;
}

-- what follows the prefix is told; or the bytes are those of its snapshots, which say nothing of places; or
-- the stands are those of its snapshots, or there are none, and no longer prefix weighs so much
abbrev pub TellNext : GridList → ℕ → List ℕ → SnapshotList → List Stand → Option (List NextRank)
    → Option (List ℕ) → Type 0
TellNext part least ranks list stands (Some next) bytes = AreLastRanks part least ranks next
TellNext part least ranks list stands None (Some bytes) =
    IsPacked (map (plain list.seen) list.snapshots) bytes
TellNext part least ranks list stands None None =
    AreStandsOf part list.snapshots stands ⊎ ((stands ≡ []) × IsLight part ranks least)

-- It is what is told of the prefix with these ranks, for a search that asks for so much weight.
pub record IsProjected (part : GridList) (least : ℕ) (ranks : List ℕ) (list : StandList) : Type 0 where
  pub snapshots : SnapshotList
  pub are : AreSnapshots part ranks snapshots
  pub seen : list.seen ≡ snapshots.seen
  pub support : list.support ≡ snapshots.support
  pub stands : TellNext part least ranks snapshots list.stands list.next list.bytes
