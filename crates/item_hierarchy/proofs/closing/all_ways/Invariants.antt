use Rattle.std.proofs.Common.{◌≡◌, length}
use Rattle.item_hierarchy.proofs.closing.all_ways.Given as goal

abbrev pub invariant-loop-t : goal.invariant-loop-t
invariant-loop-t l = record {
  size : length l.ways.items ≡ l.items;
}
