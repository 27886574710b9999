-- What records are seen as.
use Rattle.std.specs.Prelude.{Bool, true, false, List}
use Rattle.walk_memo.specs.Moves.{MoveSets}
use Rattle.walk_places.specs.declared.places.Record.{Record}
use Rattle.place_records.specs.Ranks.{RanksValue}

-- the records by place; the moves that they name, for paths that have not seen what is needed and for those
-- that have; what may be written
pub record RecordsValue : Type 0 where
  pub places : List Record
  pub early : List MoveSets
  pub late : List MoveSets
  pub table : RanksValue

-- the moves for paths that have seen what is needed, or have not
abbrev pub moves_for : RecordsValue → Bool → List MoveSets
moves_for value true = value.late
moves_for value false = value.early
