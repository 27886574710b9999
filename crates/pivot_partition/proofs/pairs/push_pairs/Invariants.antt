use Rattle.std.proofs.Common.{◌≡◌, ◌++◌, map, take}
use Rattle.pivot_partition.proofs.PairLemmas.{pair_of}
use Rattle.pivot_partition.proofs.pairs.push_pairs.Given as goal

abbrev pub invariant-loop-pivot : goal.invariant-loop-pivot
invariant-loop-pivot l = l.pairs.items ≡ l.fn.pairs.items ++ map (pair_of l.sequence) (take l.pivot-index l.found)
