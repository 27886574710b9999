-- Records in four bytes.
use Rattle.std.specs.Prelude.{ℕ, ◌+◌, ◌*◌, ◌/◌, ◌%◌, ◌<◌, ◌^◌, List, length, slice_index}
use Rattle.walk_places.specs.declared.places.Record.{Record}

-- the kind in the upper 20 bits, the number in the lower 12
abbrev pub record_of : ℕ → Record
record_of code = record { kind = code / 4096; of = code % 4096 }

pub record Fits (one : Record) : Type 0 where
  pub kind : one.kind < 2 ^ 20
  pub of : one.of < 2 ^ 12

-- the code with the number that is named for its own
abbrev pub recoded : List ℕ → ℕ → ℕ
recoded names code = code / 4096 * 4096 + slice_index names (code % 4096)

-- each of the names fits into 12 bits
abbrev pub AreLow : List ℕ → Type 0
AreLow names = (number : ℕ) → number < length names → slice_index names number < 2 ^ 12
