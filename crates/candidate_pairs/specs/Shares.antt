-- What the workers tell of the pairs of a job's sequences.
use Rattle.std.specs.Prelude.{◌≡◌, ℕ, Some, List, length, slice_get}
use Rattle.mine_model.specs.Counted.{HasPairs, IsTold}
use Rattle.mining_job.specs.Problems.{Problem, data_of}
use Rattle.worker_shares.specs.Shares.{share_of}

-- each of so many workers told the pairs of its sequences
pub record HaveAllTold (problem : Problem) (workers : ℕ) (shares : List ℕ) : Type 0 where
  pub all : length shares ≡ workers
  pub each : (worker : ℕ) (told : ℕ) → slice_get shares worker ≡ Some told
      → IsTold (HasPairs (data_of problem) (share_of problem.sequences workers worker)) told
