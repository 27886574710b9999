-- A table whose sets have one of three widths.
use Rattle.sequence_grids.specs.declared.tables.Width.{Width}
use Rattle.sequence_grids.specs.declared.tables.Width.TheVariants.{One, Four, Wide}
use Rattle.sequence_grids.specs.Tables.{TableValue}

-- the table, whatever its width
abbrev pub table_of : Width → TableValue
table_of (One table) = table
table_of (Four table) = table
table_of (Wide table) = table
