use Rattle.std.proofs.Common.{◌<◌, map, length, take}
use Rattle.open_addressing.specs.Table.{IsTable}
use Rattle.item_names.specs.Table.{key_of, layout}
use Rattle.item_names.proofs.table.table_of.Given as goal

abbrev pub invariant-loop-number : goal.invariant-loop-number
invariant-loop-number l = record {
  table : IsTable layout (map key_of (take l.number l.texts)) l.slots.items;
  room : length l.texts < length l.slots.items;
}
