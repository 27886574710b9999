use Rattle.std.proofs.Common.{◌≡◌, ℕ, ◌+◌, ◌*◌, ◌<◌, length, slice_index_or}
use Rattle.prefix_sieve.specs.Buckets.{reaches}
use Rattle.prefix_sieve.specs.Bits.{has_bit}
use Rattle.prefix_sieve.proofs.level.level_of.Given as goal

abbrev pub invariant-loop-at : goal.invariant-loop-at
invariant-loop-at l = record {
  long : length l.words.items ≡ l.at;
  done : (word bit : ℕ) → word < l.at → bit < 64
      → has_bit (slice_index_or l.words.items word 0) bit ≡ reaches l.threshold (slice_index_or l.sums (word * 64 + bit) 0);
}
