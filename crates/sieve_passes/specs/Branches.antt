-- The candidates of a sequence that was begun, as branches.
use Rattle.std.specs.Prelude.{◌≡◌, ℕ, Some, None, List, length}
use Rattle.mining_job.specs.Problems.{Problem}
use Rattle.sequence_grids.specs.Grids.{GridList, items_at}
use Rattle.snapshot_project.specs.Snapshots.{bound_of}
use Rattle.sequence_candidates.specs.Candidates.{CandidatesValue, AreCandidates}

-- the part of a job that has these sequences and no pivot
abbrev pub part_of : Problem → List ℕ → GridList
part_of problem sequences = record {
  problem = problem;
  bound = bound_of (length problem.ranking.order) None;
  sequences = sequences;
}

-- the sequence with this index was begun, and the nodes are those of its candidates
pub record IsBegunWith (value : CandidatesValue) (index : ℕ) : Type 0 where
  pub begun : value.begun ≡ Some index
  pub nodes : AreCandidates value.part (items_at value.part index) value.nodes

abbrev pub IsBegun : CandidatesValue → Type 0
IsBegun value = (index : ℕ) × IsBegunWith value index
