-- The kinds of a part, cut from those of the alphabet of its job.
use Rattle.std.specs.Prelude.{◌≡◌, ◌≢◌, ℕ, ◌+◌, ◌<◌, List, length, slice_index, slice_get, Some}
use Rattle.mine_model.specs.declared.item.Item.{Item}
use Rattle.mining_job.specs.declared.bound.Bound.{Bound}
use Rattle.mining_job.specs.Problems.{Problem}
use Rattle.sequence_grids.specs.declared.alphabet.Alphabet.{Alphabet}
use Rattle.sequence_grids.specs.declared.kinds.Kind.{Kind}
use Rattle.sequence_grids.specs.declared.kinds.Kinds.{Kinds}
use Rattle.sequence_grids.specs.Columns.{AreColumns}
use Rattle.sequence_grids.specs.Kinds.{HasKind, AreRows}
use Rattle.sequence_grids.specs.Tables.{ClassSets, unknown}
use Rattle.sequence_grids.specs.Wholes.{whole_bound}

-- the outputs of the kind stand where they may be read
pub record IsReadable (kinds : Kinds) (kind : Kind) : Type 0 where
  pub room : kind.base + length kinds.columns.heads.items < length kinds.ends.items
  pub rows : AreRows kinds.ends.items kinds.ranks.items kind.base (length kinds.columns.heads.items)

-- the columns are those of the transducer, and those of all kinds may be read
pub record AreReadable (problem : Problem) (kinds : Kinds) : Type 0 where
  pub columns_are : AreColumns problem.transducer.labels kinds.columns.numbers.items kinds.columns.heads.items
  pub each : (number : ℕ) (kind : Kind) → slice_get kinds.kinds.items number ≡ Some kind
      → IsReadable kinds kind

-- each item that has the kind with the first number in the alphabet has the one with the other number
abbrev pub IsCut : Problem → Bound → List ClassSets → Kinds → Alphabet → ℕ → ℕ → Type 0
IsCut problem bound classes kinds all whole number =
    (t : Item) → HasKind problem (whole_bound problem) all.tables.classes all.kinds t whole
    → HasKind problem bound classes kinds t number

-- the kinds may be read, and where a kind of the alphabet has a number, it is that of what was cut from it
pub record AreCuts (problem : Problem) (bound : Bound) (classes : List ClassSets) (kinds : Kinds)
    (all : Alphabet) (cuts : List ℕ) : Type 0 where
  pub readable : AreReadable problem kinds
  pub right : (whole : ℕ) → whole < length cuts → slice_index cuts whole ≢ unknown
      → IsCut problem bound classes kinds all whole (slice_index cuts whole)
