-- What the workers give back.
use Rattle.std.proofs.Common.{◌≡◌, ℕ, Bool, Some, List, length, slice_get, ◌∙◌}
use Rattle.mining_job.specs.Problems.{Problem}
use Rattle.prefix_counts.specs.Prefixes.{Prefixes}
use Rattle.worker_shares.specs.Shares.{share_of}
use Rattle.worker_threads.specs.Doing.{AreDone}
use Rattle.worker_threads.proofs.DoingLemmas.{done-at, done-long}
use Rattle.sieve_passes.specs.declared.share.Share.{Share}
use Rattle.sieve_passes.specs.Shares.{IsShareOf, AreShares}
use Rattle.counting_passes.specs.Counts.{AreSumsOf, HaveAllCounted}

module _ (problem : Problem) (levels : List (List Bool)) (workers : ℕ) where
  -- the share was counted
  abbrev pub IsCountedOf : Share → Prefixes → Type 0
  IsCountedOf share counts = (worker : ℕ) → IsShareOf problem workers worker share → AreSumsOf problem levels (share_of problem.sequences workers worker) counts

  pub all-counted : (buckets : ℕ) (shares : List Share) (counts : List Prefixes) → AreShares problem workers buckets shares → AreDone IsCountedOf shares counts
      → HaveAllCounted problem levels workers counts
  all-counted buckets shares counts are done = record {
    all = done-long IsCountedOf shares counts done ∙ are.all;
    each = λ k one at.
        let (share, there, counted) = done-at IsCountedOf shares counts done k one at in
        counted k (are.each k share there).own;
  }
