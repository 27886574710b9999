use Rattle.std.proofs.Common.{◌≡◌, length, take}
use Rattle.pivot_partition.specs.Pairs.{AreLists, all_of}
use Rattle.pivot_partition.proofs.splitting.seeds_of.Given as goal

abbrev pub invariant-loop-part : goal.invariant-loop-part
invariant-loop-part l = record {
  long : length l.lists.items ≡ length l.sums.items;
  filed : AreLists l.threshold l.sums.items (all_of (take l.part-index l.parts)) l.lists.items;
}
