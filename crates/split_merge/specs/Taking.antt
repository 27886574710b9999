-- How a line becomes a row, and why it is refused.
use Rattle.std.specs.Prelude.{◌≡◌, ℕ, ◌≤◌, ◌<◌, ◌⊎◌, Option, Some, None, List, [], ◌∷◌, ◌++◌, map, length, All}
use Rattle.std.specs.List.{AllByRecursion, join_with_byte}
use Rattle.std.specs.Ordering.{nat_cmp}
use Rattle.std.specs.Cmp.Lexicographic.{slice_cmp}
use Rattle.std.specs.declared.cmp.Ordering.TheVariants.{Less}
use Rattle.mine_model.specs.declared.row.Row.{Row}
use Rattle.mine_model.specs.Answer.{NamedRow, ComesBefore}
use Rattle.mine_model.specs.Bytes.{space}
use Rattle.mine_model.specs.Limits.{most_items}
use Rattle.mine_model.specs.Names.{name_of, HasName, named_row, AreDistinct, GrowBy}
use Rattle.mine_model.specs.Refusal.{HasMoreNames}
use Rattle.mine_model.specs.Text.{IsSoundLine}
use Rattle.text_ports.specs.declared.lines.Span.{Span}
use Rattle.text_ports.specs.Lines.{IsWithin}
use Rattle.item_names.specs.Fields.{texts_at}
use Rattle.split_merge.specs.declared.faults.MergeFault.{MergeFault}
use Rattle.split_merge.specs.declared.faults.MergeFault.TheVariants.{ReadFault, TooLarge, BadByte, NameTooLong, BadRow, TooManyItems, NoMemory}
use Rattle.split_merge.specs.declared.reading.Merging.{Merging}
use Rattle.split_merge.specs.Merging.{IsRowLine, IsSaid}
use Rattle.split_merge.specs.Rows.{HasPattern, AreRowsOfLines}

-- the names of a row, joined
abbrev pub joined_of : NamedRow → List ℕ
joined_of row = join_with_byte space row.pattern

-- the line says the row with this support and the names at these spans
pub record IsSaidBy (least : ℕ) (text : List ℕ) (support : ℕ) (spans : List Span) (joined : List ℕ)
    : Type 0 where
  pub says : IsRowLine least text (record { pattern = texts_at text spans; support = support })
  pub within : All (IsWithin (length text)) spans
  pub joined_is : joined ≡ join_with_byte space (texts_at text spans)

-- a row of this support and these names, joined, comes behind the last one
abbrev pub IsBehind : Option ℕ → List ℕ → ℕ → List ℕ → Type 0
IsBehind None names support joined = Unit {0}
IsBehind (Some before) names support joined =
    (support < before) ⊎ ((before ≡ support) × (slice_cmp nat_cmp names joined ≡ Less))

-- the row comes behind the last one that was read
abbrev pub ComesNext : Merging → NamedRow → Type 0
ComesNext merging row =
    IsBehind merging.last.support merging.last.names.items row.support (joined_of row)

-- the line became one more row
pub record TookLine (before : Merging) (number : ℕ) (text : List ℕ) (after : Merging) : Type 0 where
  pub sound : IsSoundLine text
  pub row : Row
  pub says : IsRowLine before.least text (named_row after.names row)
  pub next : ComesNext before (named_row after.names row)
  pub fresh : HasPattern before.rows row.pattern → ⊥
  pub pushed : after.rows ≡ before.rows ++ row ∷ []
  pub named : AllByRecursion (HasName after.names) row.pattern
  pub grown : GrowBy before.names (map (name_of after.names) row.pattern) after.names
  pub distinct : AreDistinct after.names
  pub room : length after.names ≤ most_items
  pub support : after.last.support ≡ Some row.support
  pub last : after.last.names.items ≡ joined_of (named_row after.names row)
  pub same : after.least ≡ before.least

-- the line is no row, or one that does not come next, or its pattern is held
abbrev pub IsWrong : Merging → List ℕ → List (List ℕ) → Type 0
IsWrong before text names = ((row : NamedRow) → IsRowLine before.least text row → ⊥)
    ⊎ ((row : NamedRow) × IsRowLine before.least text row × (ComesNext before row → ⊥))
    ⊎ ((row : Row) × IsRowLine before.least text (named_row names row) × HasPattern before.rows row.pattern
    × GrowBy before.names (map (name_of names) row.pattern) names)

-- why a line was refused; want of memory may come at any time
abbrev pub IsLineFault : Merging → ℕ → List ℕ → List (List ℕ) → MergeFault → Type 0
IsLineFault before number text names ReadFault = ⊥
IsLineFault before number text names TooLarge = ⊥
IsLineFault before number text names (BadByte line column) = ⊥
IsLineFault before number text names (NameTooLong line column) = ⊥
IsLineFault before number text names (BadRow line) = (line ≡ number) × IsWrong before text names
IsLineFault before number text names (TooManyItems line) =
    (line ≡ number) × (row : NamedRow) × IsRowLine before.least text row × ComesNext before row
    × HasMoreNames most_items (before.names ++ row.pattern)
IsLineFault before number text names NoMemory = Unit {0}

-- the line was refused: the old names stay in front, and the rows as they were
pub record RefusedLine (before : Merging) (number : ℕ) (text : List ℕ) (fault : MergeFault) (after : Merging)
    : Type 0 where
  pub why : IsLineFault before number text after.names fault
  pub added : List (List ℕ)
  pub kept : after.names ≡ before.names ++ added
  pub rows : after.rows ≡ before.rows

-- the last row of the lines is this one, and all others come before it
pub record IsLastRow (threshold : ℕ) (lines : List (List ℕ)) (support : Option ℕ) (names : List ℕ)
    (row : NamedRow) : Type 0 where
  pub said : IsSaid threshold lines row
  pub others : (other : NamedRow) → IsSaid threshold lines other → (other ≡ row) ⊎ ComesBefore other row
  pub support_is : support ≡ Some row.support
  pub names_are : names ≡ joined_of row

-- what is kept of the lines of one file is the last row of them
abbrev pub IsLastOf : ℕ → List (List ℕ) → Option ℕ → List ℕ → Type 0
IsLastOf threshold lines support names =
    ((lines ≡ []) × (support ≡ None)) ⊎ ((row : NamedRow) × IsLastRow threshold lines support names row)

-- these lines of a file were read, behind the lines of the files before
pub record IsTaken (threshold : ℕ) (earlier lines : List (List ℕ)) (merging : Merging) : Type 0 where
  pub same : merging.least ≡ threshold
  pub rows : AreRowsOfLines threshold (earlier ++ lines) merging.names merging.rows
  pub distinct : AreDistinct merging.names
  pub room : length merging.names ≤ most_items
  pub last : IsLastOf threshold lines merging.last.support merging.last.names.items
