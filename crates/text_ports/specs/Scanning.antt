-- How far a line was scanned.
use Rattle.std.specs.Prelude.{◌≡◌, ℕ, ◌+◌, ◌-◌, ◌≤◌, ◌<◌, ◌==◌, ◌≢◌, ◌⊎◌, Bool, false, true, List, [], ◌∷◌, ◌++◌, map, length, take, drop, All}
use Rattle.std.specs.List.{AllByRecursion}
use Rattle.mine_model.specs.Bytes.{line_feed, carriage_return}
use Rattle.mine_model.specs.Limits.{most_name_bytes}
use Rattle.mine_model.specs.Text.{is_name_byte, is_blank, is_bad_byte, pieces_by_feed, pieces_by_blank, without_return, fields_from, placed_fields_of, TextFault, IsFirstTextFault, IsSoundLine}
use Rattle.text_ports.specs.declared.lines.Span.{Span}
use Rattle.text_ports.specs.declared.scan.Behind.{Behind}
use Rattle.text_ports.specs.declared.scan.Behind.TheVariants.{Blank, LineEnd, BadByte}
use Rattle.text_ports.specs.Lines.{field_at, IsWithin}

-- the lines of bytes that begin with no byte order mark
abbrev pub lines_behind : List ℕ → List (List ℕ)
lines_behind bytes = map without_return (pieces_by_feed bytes)

-- a byte that may stand in a line
pub record IsLineByte (b : ℕ) : Type 0 where
  pub good : is_bad_byte b ≡ false
  pub inner : (b == line_feed) ≡ false

-- the field of the span is short enough
pub record IsShort (count : ℕ) (span : Span) : Type 0 where
  pub within : IsWithin count span
  pub short : span.to ≤ span.from + most_name_bytes

-- Up to here the line is scanned, and a field may begin here.
pub record IsScanned (rest : List ℕ) (at : ℕ) (spans : List Span) : Type 0 where
  pub inside : at ≤ length rest
  pub clean : AllByRecursion IsLineByte (take at rest)
  pub short : AllByRecursion (IsShort at) spans
  pub fields : (after : List ℕ)
      → placed_fields_of (take at rest ++ after)
      ≡ map (field_at rest) spans ++ fields_from (at + 1) (pieces_by_blank after)

-- Up to here the line is scanned, and no field goes on here.
pub record IsCut (rest : List ℕ) (at : ℕ) (spans : List Span) : Type 0 where
  pub inside : at ≤ length rest
  pub clean : AllByRecursion IsLineByte (take at rest)
  pub short : AllByRecursion (IsShort at) spans
  pub whole : placed_fields_of (take at rest) ≡ map (field_at rest) spans
  pub fields : (b : ℕ) (after : List ℕ) → is_name_byte b ≡ false
      → placed_fields_of (take at rest ++ b ∷ after)
      ≡ map (field_at rest) spans ++ fields_from (at + 2) (pieces_by_blank after)

-- the bytes end a line, or all of them, and these are behind its end
abbrev pub EndsLine : List ℕ → List ℕ → Type 0
EndsLine bytes behind =
    ((bytes ≡ []) × (behind ≡ []))
    ⊎ (bytes ≡ line_feed ∷ behind)
    ⊎ (bytes ≡ carriage_return ∷ line_feed ∷ behind)
    ⊎ ((bytes ≡ carriage_return ∷ []) × (behind ≡ []))

-- the first of the bytes is a bad one of its line
abbrev pub BeginsBadly : List ℕ → Type 0
BeginsBadly bytes =
    (b : ℕ) × (more : List ℕ) × (bytes ≡ b ∷ more) × (is_bad_byte b ≡ true)
    × (b ≡ carriage_return → (c : ℕ) × (others : List ℕ) × (more ≡ c ∷ others) × (c ≢ line_feed))

-- what stands at this place behind a field
abbrev pub StandsBehind : List ℕ → ℕ → Behind → Type 0
StandsBehind rest at Blank =
    (b : ℕ) × (drop at rest ≡ b ∷ drop (at + 1) rest) × (is_blank b ≡ true) × (at < length rest)
StandsBehind rest at (LineEnd next) =
    EndsLine (drop at rest) (drop next rest) × (at ≤ next) × (next ≤ length rest)
StandsBehind rest at BadByte = BeginsBadly (drop at rest) × (at < length rest)

-- the bytes begin with a line, whose first fault stands at the column
abbrev pub BeginsFaulty : List ℕ → TextFault → ℕ → Type 0
BeginsFaulty rest fault column =
    (text : List ℕ) × (later : List (List ℕ))
    × (lines_behind rest ≡ text ∷ later) × IsFirstTextFault text fault column
