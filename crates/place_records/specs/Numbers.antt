-- Numbers of what places do.
use Rattle.std.specs.Prelude.{◌≡◌, ◌≢◌, ℕ, ◌/◌, ◌%◌, ◌<◌, Bool, List, length, slice_get, slice_index, Some}
use Rattle.sequence_grids.specs.Tables.{TableValue, row, unknown}
use Rattle.sequence_grids.specs.Kinds.{Extends}
use Rattle.place_records.specs.Twins.{TwinSets, AreTargets, IsTwinAt, dead_twin}

-- the classes and triples, whether something is needed, and what places do, by number
pub record TwinsValue : Type 0 where
  pub table : TableValue
  pub needed : Bool
  pub twins : List TwinSets

-- the twin with the number is that of a class and a triple with these numbers
abbrev pub HasTwin : TwinsValue → ℕ → ℕ → ℕ → Type 0
HasTwin value class behind number =
    IsTwinAt (length value.table.predecessors) value.needed value.table.classes value.table.triples
    value.twins class behind number

-- nothing that had a number lost it
pub record TwinsGrow (before after : TwinsValue) : Type 0 where
  pub table : after.table ≡ before.table
  pub needed : after.needed ≡ before.needed
  pub twins : Extends before.twins after.twins

-- the numbers that are kept, a row for each triple, are right, and the first one is of what does nothing
pub record AreTwins (table : TableValue) (needed : Bool) (targets : ℕ) (twins : List TwinSets)
    (numbers : List ℕ)
    : Type 0 where
  pub targets_are : AreTargets (length table.predecessors) targets
  pub first : slice_get twins 0 ≡ Some dead_twin
  pub numbers_are : (i : ℕ) → i < length numbers → slice_index numbers i ≢ unknown
      → IsTwinAt (length table.predecessors) needed table.classes table.triples twins (i % row) (i / row)
      (slice_index numbers i)
