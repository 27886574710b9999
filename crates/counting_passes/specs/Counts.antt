-- What the workers count of the sequences of a job, behind its sieve.
use Rattle.std.specs.Prelude.{◌≡◌, ℕ, ◌+◌, ◌*◌, ◌≤◌, Bool, Some, List, ◌++◌, length, slice_get}
use Rattle.mine_model.specs.declared.item.Item.{Item}
use Rattle.mine_model.specs.Limits.{most_weight}
use Rattle.mine_model.specs.Support.{Sequence}
use Rattle.mining_job.specs.Problems.{Problem, data_of}
use Rattle.prefix_counts.specs.Prefixes.{Prefixes}
use Rattle.prefix_counts.specs.Sums.{sum_of}
use Rattle.sieved_counts.specs.Counted.{AreCounted}
use Rattle.worker_shares.specs.Shares.{share_of}

-- the sums are those of these sequences, and none is more than as many sequences can weigh
pub record AreSumsOf (problem : Problem) (levels : List (List Bool)) (sequences : List (Sequence Item))
    (counts : Prefixes) : Type 0 where
  pub counted : AreCounted (data_of problem) problem.ranking.order levels sequences counts
  pub most : (list : List ℕ) → sum_of counts list ≤ most_weight * length sequences

-- the sequences were counted: where the sums were those of some before, they are those of both now
abbrev pub CountsAll : Problem → List (List Bool) → List (Sequence Item) → Prefixes → Prefixes → Type 0
CountsAll problem levels sequences before after = (some : List (Sequence Item))
    → AreSumsOf problem levels some before → AreSumsOf problem levels (some ++ sequences) after

-- no sum grew by more than this
abbrev pub GrowsUpTo : ℕ → Prefixes → Prefixes → Type 0
GrowsUpTo most before after = (list : List ℕ) → sum_of after list ≤ sum_of before list + most

-- each of so many workers counted its sequences
pub record HaveAllCounted (problem : Problem) (levels : List (List Bool)) (workers : ℕ)
    (shares : List Prefixes) : Type 0 where
  pub all : length shares ≡ workers
  pub each : (worker : ℕ) (counts : Prefixes) → slice_get shares worker ≡ Some counts
      → AreSumsOf problem levels (share_of problem.sequences workers worker) counts
