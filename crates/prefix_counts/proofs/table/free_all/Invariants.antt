use Rattle.std.proofs.Common.{◌≡◌, ℕ, ◌<◌, length}
use Rattle.open_addressing.specs.Table.{held_at}
use Rattle.prefix_counts.specs.Table.{layout}
use Rattle.prefix_counts.proofs.table.free_all.Given as goal

abbrev pub invariant-loop-slot : goal.invariant-loop-slot
invariant-loop-slot l = record {
  free : (at : ℕ) → at < l.slot-index → held_at layout l.slot-items at ≡ 0;
  size : length l.slot-items ≡ length l.fn.slots.items;
}
