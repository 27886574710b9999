use Rattle.std.proofs.Common.{◌≡◌, ℕ, ◌+◌, Bool, List, Some, length, slice_get}
use Rattle.mining_job.specs.Problems.{Problem}
use Rattle.sieve_passes.specs.declared.share.Share.{Share}
use Rattle.worker_shares.specs.Shares.{share_of}
use Rattle.sieve_passes.specs.Shares.{IsShareOf}
use Rattle.sieve_passes.specs.Sums.{HasAll}
use Rattle.worker_shares.proofs.ShareLemmas.{shares_to}
use Rattle.sieve_passes.proofs.sums.join_all.Given as goal

-- nothing is lost of the first workers, whose sums were joined
abbrev pub invariant-loop-share : goal.invariant-loop-share
invariant-loop-share l = record {
  own : (problem : Problem) (workers worker : ℕ) → IsShareOf problem workers worker l.fn.first → IsShareOf problem workers worker l.first;
  long : length l.first.buckets ≡ length l.fn.first.buckets;
  joined : (problem : Problem) (levels : List (List Bool)) (workers : ℕ) → HasAll problem levels (share_of problem.sequences workers 0) l.fn.first.buckets
      → ((k : ℕ) (share : Share) → slice_get l.others k ≡ Some share → HasAll problem levels (share_of problem.sequences workers (k + 1)) share.buckets)
      → HasAll problem levels (shares_to problem.sequences workers (l.share-index + 1)) l.first.buckets;
}
