use Rattle.std.proofs.Common.{◌≡◌, ℕ, ◌+◌, length, take, slice_index}
use Rattle.pivot_partition.specs.Pairs.{weight_with}
use Rattle.pivot_partition.proofs.weighing.add_weights.Given as goal

abbrev pub invariant-loop-pair : goal.invariant-loop-pair
invariant-loop-pair l = record {
  long : length l.sums ≡ length l.fn.sums;
  added : (pivot : ℕ) → slice_index l.sums pivot ≡ slice_index l.fn.sums pivot + weight_with l.job pivot (take l.pair-index l.pairs);
}
