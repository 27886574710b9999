use Rattle.std.proofs.Common.{◌≡◌, ◌++◌, List, length, take}
use Rattle.pivot_partition.specs.declared.pairs.Pair.{Pair}
use Rattle.pivot_partition.specs.Pairs.{AreLists}
use Rattle.pivot_partition.proofs.splitting.file.Given as goal

abbrev pub invariant-loop-pair : goal.invariant-loop-pair
invariant-loop-pair l = record {
  long : length l.lists.items ≡ length l.fn.lists.items;
  filed : (done : List Pair) → AreLists l.threshold l.sums done l.fn.lists.items → AreLists l.threshold l.sums (done ++ take l.pair-index l.pairs) l.lists.items;
}
