use Rattle.std.proofs.Common.{◌≡◌, ℕ, ◌+◌, ◌≤◌, ◌<◌, slice_index_or}
use Rattle.std.specs.Int.{bit_at}
use Rattle.prefix_sieve.specs.Buckets.{reaches}
use Rattle.prefix_sieve.specs.Bits.{has_bit}
use Rattle.prefix_sieve.proofs.level.word_of.Given as goal

abbrev pub invariant-loop-at : goal.invariant-loop-at
invariant-loop-at l = record {
  done : (k : ℕ) → k < l.at → has_bit l.word k ≡ reaches l.threshold (slice_index_or l.sums (l.first + k) 0);
  free : (k : ℕ) → l.at ≤ k → bit_at l.word k ≡ 0;
}
