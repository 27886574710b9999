-- Live states: where a path can stand that has written a prefix and nothing since, and can still complete.
use Rattle.std.specs.Prelude.{◌≡◌, ℕ, ◌+◌, ◌≤◌, ◌<◌, Bool, ◌⊎◌, ◌↔◌, IsTrue, Some, List, [], ◌++◌, length, take, drop, slice_get, AllPairs, Contains}
use Rattle.mine_model.specs.declared.item.Item.{Item}
use Rattle.fst_compile.specs.Transducer.{Leads}
use Rattle.mining_job.specs.declared.bound.Bound.{Bound}
use Rattle.mining_job.specs.Problems.{Problem}
use Rattle.sequence_grids.specs.Grids.{GridList, HoldsNeeded, Completes, Continues, Ends, Reads, WritesRank}
use Rattle.sequence_grids.specs.Kinds.{IsNeededRank}
use Rattle.snapshot_project.specs.declared.snapshot.Snapshot.{Snapshot}
use Rattle.snapshot_project.specs.Runs.{IsRun}
use Rattle.snapshot_project.specs.Snapshots.{CompletesBehind, IsSnapshotAt, IsSnapshotOf, IsOpen, ComesBefore}
use Rattle.snapshot_project.specs.Aims.{sees, goes}

-- from a snapshot of the prefix edges that write nothing lead to the state, and a path completes from there
abbrev pub IsLiveAt : Problem → Bound → List Item → List Item → List Item → ℕ → Type 0
IsLiveAt problem bound done rest prefix state =
    (early : List Item) × (quiet : List Item) × (start : ℕ) × (done ≡ early ++ quiet)
    × IsSnapshotAt problem bound early (quiet ++ rest) prefix start
    × IsRun problem start quiet [] state × CompletesBehind problem bound prefix rest state

-- the state is live for the prefix at the position in the items
abbrev pub IsLive : Problem → Bound → List Item → List Item → ℕ → ℕ → Type 0
IsLive problem bound items prefix position state =
    (position ≤ length items)
    × IsLiveAt problem bound (take position items) (drop position items) prefix state

-- an edge that writes nothing leads from a live state at the position to this one, behind the item there
abbrev pub GoesOn : Problem → Bound → List Item → List Item → ℕ → ℕ → Type 0
GoesOn problem bound items prefix position state =
    (t : Item) × (from : ℕ) × (slice_get items position ≡ Some t)
    × IsLive problem bound items prefix position from × Leads problem.transducer from state
    × Reads problem t state [] × CompletesBehind problem bound prefix (drop (position + 1) items) state

-- what is needed is in the prefix, or is the rank
abbrev pub HoldsNeededWith : Problem → Bound → List Item → ℕ → Type 0
HoldsNeededWith problem bound prefix rank =
    HoldsNeeded problem.ranking bound.need prefix ⊎ IsNeededRank bound.need rank

-- a path completes behind the prefix and the item with the rank
abbrev pub CompletesWith : Problem → Bound → List Item → ℕ → List Item → ℕ → Type 0
CompletesWith problem bound prefix rank rest state =
    (seen : Bool) × (IsTrue seen ↔ HoldsNeededWith problem bound prefix rank)
    × Completes problem bound rest state seen

-- an edge from a live state at the position leads to this one and writes the item with the rank, and a path
-- completes from there
abbrev pub WritesNext : Problem → Bound → List Item → List Item → ℕ → ℕ → ℕ → Type 0
WritesNext problem bound items prefix rank position state =
    (t : Item) × (from : ℕ) × (slice_get items position ≡ Some t)
    × IsLive problem bound items prefix position from × Leads problem.transducer from state
    × WritesRank problem bound t state rank
    × CompletesWith problem bound prefix rank (drop (position + 1) items) state

-- the same, what is needed is seen with the rank, and a path from there writes nothing more
abbrev pub EndsNext : Problem → Bound → List Item → List Item → ℕ → ℕ → ℕ → Type 0
EndsNext problem bound items prefix rank position state =
    WritesNext problem bound items prefix rank position state × HoldsNeededWith problem bound prefix rank
    × Ends problem (drop (position + 1) items) state

-- such an edge leads to this state at the position, and a path goes on from there as it has to
abbrev pub OpensNext : Problem → Bound → List Item → List Item → Bool → ℕ → ℕ → ℕ → Type 0
OpensNext problem bound items prefix seen rank position state =
    (before : ℕ) × (position ≡ before + 1) × WritesNext problem bound items prefix rank before state
    × Continues problem bound (drop position items) state (goes (sees seen bound.need rank) bound.need)

-- the list has snapshots of the prefix, each once, and all from which more can be written
pub record AreSnapshotsOf (part : GridList) (prefix : List Item) (snapshots : List Snapshot) : Type 0 where
  pub rising : AllPairs ComesBefore snapshots
  pub right : (snapshot : Snapshot) → Contains snapshots snapshot → IsSnapshotOf part prefix snapshot
  pub all : (snapshot : Snapshot) → IsSnapshotOf part prefix snapshot → IsOpen part prefix snapshot
      → Contains snapshots snapshot

-- the snapshots of the sequence are those from one place of the list up to the other
pub record IsGroup (snapshots : List Snapshot) (sequence from end : ℕ) : Type 0 where
  pub some : from < end
  pub within : end ≤ length snapshots
  pub exact : (k : ℕ) (snapshot : Snapshot) → slice_get snapshots k ≡ Some snapshot
      → (snapshot.sequence ≡ sequence) ↔ ((from ≤ k) × (k < end))
