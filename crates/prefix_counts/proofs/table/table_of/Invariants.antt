use Rattle.std.proofs.Common.{◌<◌, length, map, take}
use Rattle.open_addressing.specs.Table.{IsTable}
use Rattle.prefix_counts.specs.Table.{key_of, layout, pairs_of}
use Rattle.prefix_counts.proofs.table.table_of.Given as goal

abbrev pub invariant-loop-number : goal.invariant-loop-number
invariant-loop-number l = record {
  table : IsTable layout (map key_of (pairs_of (take l.number l.nodes))) l.slots.items;
  room : length l.nodes < length l.slots.items;
}
