-- The ranks that a table keeps.
use Rattle.std.specs.Prelude.{◌≡◌, ℕ, ◌+◌, ◌<◌, Bool, Option, Some, None, List, [], length, slice_get, slice_index}
use Rattle.fst_compile.specs.Rows.{IsSetOf}
use Rattle.sequence_grids.specs.declared.kinds.Kind.{Kind}
use Rattle.sequence_grids.specs.declared.kinds.Kinds.{Kinds}
use Rattle.sequence_grids.specs.Kinds.{HasCell, IsInside, row_at}

-- the kinds, and whether their ranks are kept as sets, too
pub record RanksValue : Type 0 where
  pub kinds : Kinds
  pub keeps : Bool

-- what a kind, if it is one, has at the state
abbrev pub ranks_in : Kinds → Option Kind → ℕ → List ℕ
ranks_in kinds None state = []
ranks_in kinds (Some kind) state =
    row_at kinds.ends.items kinds.ranks.items kind.base (slice_index kinds.columns.numbers.items state)

-- the ranks of the kind with the number at the state
abbrev pub ranks_of : RanksValue → ℕ → ℕ → List ℕ
ranks_of table number state = ranks_in table.kinds (slice_get table.kinds.kinds.items number) state

-- the table knows the kind with the number and the state
abbrev pub CanAskOf : RanksValue → ℕ → ℕ → Type 0
CanAskOf table number state = HasCell table.kinds number state

-- for each of the first so many ends the ranks between it and the next, as a set
pub record AreSetsTo (kinds : Kinds) (sets : List ℕ) (count : ℕ) : Type 0 where
  pub long : length sets ≡ count
  pub exact : (base column : ℕ) → base + column < count
      → IsInside kinds.ends.items kinds.ranks.items base column
      → IsSetOf (slice_index sets (base + column)) (row_at kinds.ends.items kinds.ranks.items base column)

-- the same for all of the ends
abbrev pub AreSets : Kinds → List ℕ → Type 0
AreSets kinds sets = AreSetsTo kinds sets (length kinds.ends.items)
