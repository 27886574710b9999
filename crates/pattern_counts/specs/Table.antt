-- What the slots of a table hold: the numbers of lists, and their hashes.
use Rattle.std.specs.Prelude.{ℕ}
use Rattle.open_addressing.specs.Table.{Layout}
use Rattle.pattern_counts.specs.declared.table.Slot.{Slot}

abbrev pub layout : Layout ℕ Slot
layout = record {
  held = λ slot. slot.held;
  key_in = λ slot. slot.hash;
  hash_of = λ hash. hash;
  free = record { hash = 0; held = 0 };
}
