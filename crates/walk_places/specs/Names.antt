-- Records that name what places do by other numbers.
use Rattle.std.specs.Prelude.{ℕ, List, slice_index}
use Rattle.walk_places.specs.declared.places.Record.{Record}

-- the record with the number that is named for its own
abbrev pub renamed : List ℕ → Record → Record
renamed names entry = record { kind = entry.kind; of = slice_index names entry.of }
