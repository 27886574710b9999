use Rattle.std.proofs.Common.{◌≡◌}
use Rattle.pivot_partition.specs.Pairs.{ArePairs}
use Rattle.pivot_partition.proofs.pairs.pairs_with.Given as goal

abbrev pub invariant-loop-sequence : goal.invariant-loop-sequence
invariant-loop-sequence l = record {
  same : l.pivots ≡ l.fn.pivots;
  pairs : ArePairs l.fn.pivots l.from l.sequence l.pairs.items;
}
