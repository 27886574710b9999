use Rattle.std.proofs.Common.{◌≡◌, ℕ, ◌<◌, ◌≤◌, length, slice_index_or}
use Rattle.prefix_sieve.specs.Buckets.{capped}
use Rattle.prefix_sieve.proofs.buckets.join.Given as goal

abbrev pub invariant-loop-at : goal.invariant-loop-at
invariant-loop-at l = record {
  long : length l.sums ≡ length l.fn.sums;
  done : (k : ℕ) → k < l.at → slice_index_or l.sums k 0 ≡ capped (slice_index_or l.fn.sums k 0) (slice_index_or l.others k 0);
  rest : (k : ℕ) → l.at ≤ k → slice_index_or l.sums k 0 ≡ slice_index_or l.fn.sums k 0;
}
