-- Snapshots: where a path of the transducer can stand that has just written a prefix. From the DESQ article.
use Rattle.std.specs.Prelude.{◌≡◌, ℕ, ◌≤◌, ◌<◌, Bool, ◌⊎◌, ◌↔◌, IsTrue, Option, Some, None, List, [], ◌∷◌, ◌++◌, length, take, drop, AllPairs, Contains}
use Rattle.std.specs.List.{AllByRecursion}
use Rattle.mine_model.specs.declared.item.Item.{Item}
use Rattle.mine_model.specs.Ranks.{AreRanked}
use Rattle.fst_compile.specs.Transducer.{IsPath}
use Rattle.mining_job.specs.declared.bound.Bound.{Bound}
use Rattle.mining_job.specs.declared.part_seed.PartSeed.{PartSeed}
use Rattle.mining_job.specs.Problems.{Problem, IsWhole, items_of}
use Rattle.sequence_grids.specs.Grids.{GridList, Completes, Continues, IsAllowed, HoldsNeeded}
use Rattle.snapshot_project.specs.declared.snapshot.Snapshot.{Snapshot}
use Rattle.snapshot_project.specs.Runs.{IsRun, IsStep}
use Rattle.snapshot_project.specs.Extensions.{IsSupportOf}
use Rattle.snapshot_project.specs.Aims.{goes}

-- a path from the start over these items ends in the state and writes the prefix, and its last edge wrote the
-- prefix's last item
abbrev pub HasJustWritten : Problem → List Item → List Item → ℕ → Type 0
HasJustWritten problem done prefix state =
    (early : List Item) × (t : Item) × (before : List Item) × (w : Item) × (previous : ℕ)
    × (done ≡ early ++ t ∷ []) × (prefix ≡ before ++ w ∷ [])
    × IsRun problem 0 early before previous × IsStep problem previous t (w ∷ []) state

-- the same, or all is empty
abbrev pub IsReached : Problem → List Item → List Item → ℕ → Type 0
IsReached problem done prefix state =
    ((done ≡ []) × (prefix ≡ []) × (state ≡ 0)) ⊎ HasJustWritten problem done prefix state

-- a path completes behind the prefix, which holds what is needed or not
abbrev pub CompletesBehind : Problem → Bound → List Item → List Item → ℕ → Type 0
CompletesBehind problem bound prefix rest state =
    (seen : Bool) × (IsTrue seen ↔ HoldsNeeded problem.ranking bound.need prefix)
    × Completes problem bound rest state seen

-- between what is done of the items and the rest of them there is a snapshot of the prefix with the state
abbrev pub IsSnapshotAt : Problem → Bound → List Item → List Item → List Item → ℕ → Type 0
IsSnapshotAt problem bound done rest prefix state =
    IsReached problem done prefix state × CompletesBehind problem bound prefix rest state

-- the items have a snapshot of the prefix at the position, in the state
abbrev pub HasSnapshot : Problem → Bound → List Item → List Item → ℕ → ℕ → Type 0
HasSnapshot problem bound items prefix position state =
    (position ≤ length items)
    × IsSnapshotAt problem bound (take position items) (drop position items) prefix state

-- a snapshot of the prefix in one of the sequences of the part
abbrev pub IsSnapshotOf : GridList → List Item → Snapshot → Type 0
IsSnapshotOf part prefix snapshot =
    Contains part.sequences snapshot.sequence
    × HasSnapshot part.problem part.bound (items_of part.problem snapshot.sequence) prefix snapshot.position
    snapshot.state

-- from the state a path writes one item or more, all of them allowed, and the prefix with them holds what is
-- needed
abbrev pub WritesOn : Problem → Bound → List Item → List Item → ℕ → Type 0
WritesOn problem bound prefix rest state =
    (v : Item) × (more : List Item) × IsPath problem.hierarchy.links problem.transducer state rest (v ∷ more)
    × AllByRecursion (IsAllowed problem.ranking bound) (v ∷ more)
    × HoldsNeeded problem.ranking bound.need (prefix ++ v ∷ more)

-- the snapshot of the prefix is one from which more can be written
abbrev pub IsOpen : GridList → List Item → Snapshot → Type 0
IsOpen part prefix snapshot =
    WritesOn part.problem part.bound prefix
    (drop snapshot.position (items_of part.problem snapshot.sequence)) snapshot.state

-- by sequence, by position and by state
abbrev pub ComesBefore : Snapshot → Snapshot → Type 0
ComesBefore first second = (first.sequence < second.sequence)
    ⊎ ((first.sequence ≡ second.sequence) × ((first.position < second.position)
    ⊎ ((first.position ≡ second.position) × (first.state < second.state))))

-- snapshots of one prefix, whether it holds what is needed, and what it weighs by itself
pub record SnapshotList : Type 0 where
  pub seen : Bool
  pub support : ℕ
  pub snapshots : List Snapshot

-- from the snapshot a path goes on as it has to: it writes more, and what is needed was seen or is written,
-- too
abbrev pub MayGoOn : GridList → Bool → Snapshot → Type 0
MayGoOn part seen snapshot =
    Continues part.problem part.bound (drop snapshot.position (items_of part.problem snapshot.sequence))
    snapshot.state (goes seen part.bound.need)

-- The snapshots are snapshots of the prefix with these ranks, which the bound allows, each once, and each may
-- go on; none is left out from which more can be written.
pub record AreSnapshots (part : GridList) (ranks : List ℕ) (list : SnapshotList) : Type 0 where
  pub prefix : List Item
  pub ranked : AreRanked part.problem.ranking.order prefix ranks
  pub top : AllByRecursion (λ rank. rank ≤ part.bound.top) ranks
  pub seen : IsTrue list.seen ↔ HoldsNeeded part.problem.ranking part.bound.need prefix
  pub rising : AllPairs ComesBefore list.snapshots
  pub right : (snapshot : Snapshot) → Contains list.snapshots snapshot → IsSnapshotOf part prefix snapshot
  pub on : (snapshot : Snapshot) → Contains list.snapshots snapshot → MayGoOn part list.seen snapshot
  pub all : (snapshot : Snapshot) → IsSnapshotOf part prefix snapshot → IsOpen part prefix snapshot
      → Contains list.snapshots snapshot
  pub support : IsSupportOf part ranks list.support

-- a part's sequences rise, and are sequences of its problem; the ranks up to its top have items
pub record IsPart (part : GridList) : Type 0 where
  pub whole : IsWhole part.problem
  pub top : part.bound.top ≤ length part.problem.ranking.order
  pub rising : AllPairs (λ low high. low < high) part.sequences
  pub within : AllByRecursion (λ i. i < length part.problem.sequences) part.sequences

-- the bound of a part: with a pivot, the ranks up to the pivot's, which is needed
abbrev pub bound_of : ℕ → Option ℕ → Bound
bound_of ranks None = record { top = ranks; need = None }
bound_of ranks (Some pivot) = record { top = pivot; need = Some pivot }

-- the part of the sequences of a seed
abbrev pub part_for : Problem → PartSeed → GridList
part_for problem seed = record {
  problem = problem;
  bound = bound_of (length problem.ranking.order) seed.pivot;
  sequences = seed.sequences.items;
}
