use Rattle.std.proofs.Common.{◌<◌, length, take}
use Rattle.open_addressing.specs.Table.{IsTable}
use Rattle.pattern_counts.specs.Table.{layout}
use Rattle.pattern_counts.proofs.table.table_of.Given as goal

abbrev pub invariant-loop-number : goal.invariant-loop-number
invariant-loop-number l = record {
  table : IsTable layout (take l.number l.hashes) l.slots.items;
  room : l.count < length l.slots.items;
}
