-- What each worker is given and gives back.
use Rattle.std.specs.Prelude.{◌≡◌, ℕ, Bool, Some, List, length, slice_get}
use Rattle.mining_job.specs.Problems.{Problem}
use Rattle.sequence_candidates.specs.Candidates.{CandidatesValue}
use Rattle.worker_shares.specs.Shares.{numbers_of, share_of}
use Rattle.sieve_passes.specs.Branches.{part_of}
use Rattle.sieve_passes.specs.declared.share.Share.{Share}
use Rattle.sieve_passes.specs.Sums.{HasAll}

-- the numbers of a worker's sequences, of so many workers
abbrev pub own_numbers : Problem → ℕ → ℕ → List ℕ
own_numbers problem workers worker = numbers_of workers worker (length problem.sequences)

-- it is the share of the worker, whose sequences alone are entered
pub record IsShareOf (problem : Problem) (workers worker : ℕ) (share : Share) : Type 0 where
  pub number : share.worker ≡ worker
  pub numbers : share.numbers.items ≡ own_numbers problem workers worker
  pub part : share.branches.part ≡ part_of problem (own_numbers problem workers worker)

-- and has so many buckets
pub record IsShareWith (problem : Problem) (workers buckets worker : ℕ) (share : Share) : Type 0 where
  pub own : IsShareOf problem workers worker share
  pub long : length share.buckets ≡ buckets

-- they are the shares of so many workers, each at the place of its number, with so many buckets
pub record AreShares (problem : Problem) (workers buckets : ℕ) (shares : List Share) : Type 0 where
  pub all : length shares ≡ workers
  pub each : (worker : ℕ) (share : Share) → slice_get shares worker ≡ Some share
      → IsShareWith problem workers buckets worker share

-- they are the number of the share's worker, those of its sequences, and its branches
pub record AreThoseOf (share : Share) (number : ℕ) (numbers : List ℕ) (branches : CandidatesValue)
    : Type 0 where
  pub worker : number ≡ share.worker
  pub sequences : numbers ≡ share.numbers.items
  pub part : branches.part ≡ share.branches.part

-- the worker made its pass, over its sequences alone
pub record IsPassedBy (problem : Problem) (levels : List (List Bool)) (workers : ℕ) (before after : Share)
    : Type 0 where
  pub own : IsShareOf problem workers before.worker after
  pub long : length after.buckets ≡ length before.buckets
  pub has : HasAll problem levels (share_of problem.sequences workers before.worker) after.buckets

-- so did all
abbrev pub HaveAll : Problem → List (List Bool) → ℕ → List Share → Type 0
HaveAll problem levels workers shares = (worker : ℕ) (share : Share) → slice_get shares worker ≡ Some share
    → HasAll problem levels (share_of problem.sequences workers worker) share.buckets
