-- Lines and fields of a file, and what is wrong with the text of a line. This program's own format.
use Rattle.std.specs.Prelude.{◌≡◌, ℕ, ◌+◌, ◌≤◌, ◌<◌, ◌==◌, ◌&&◌, ◌||◌, nat_lt, not, Bool, true, if◌then◌else◌, List, [], ◌∷◌, ◌++◌, map, drop, length, nat_eq, Contains}
use Rattle.std.specs.List.{starts_with}
use Rattle.mine_model.specs.Bytes.{tab, line_feed, carriage_return, space, delete}
use Rattle.mine_model.specs.Limits.{most_name_bytes}

-- a blank separates fields
abbrev pub is_blank : ℕ → Bool
is_blank b = (b == tab) || (b == space)

-- a control byte that is neither a blank nor a line feed; none may stand in a line
abbrev pub is_bad_byte : ℕ → Bool
is_bad_byte b = (nat_lt b space && not (is_blank b) && not (b == line_feed)) || (b == delete)

-- a byte of a name: neither blank nor control byte
abbrev pub is_name_byte : ℕ → Bool
is_name_byte b = nat_lt space b && not (b == delete)

-- a byte before the first of the pieces
abbrev pub onto_first : ℕ → List (List ℕ) → List (List ℕ)
onto_first b [] = (b ∷ []) ∷ []
onto_first b (piece ∷ pieces) = (b ∷ piece) ∷ pieces

-- a line feed ends a line; the bytes after the last one, if there are any, are one more line
abbrev pub pieces_by_feed : List ℕ → List (List ℕ)
pieces_by_feed [] = []
pieces_by_feed (b ∷ bytes) = if b == line_feed then [] ∷ pieces_by_feed bytes
    else onto_first b (pieces_by_feed bytes)

-- a carriage return at the very end is dropped
abbrev pub without_return : List ℕ → List ℕ
without_return [] = []
without_return (b ∷ []) = if b == carriage_return then [] else b ∷ []
without_return (b ∷ c ∷ bytes) = b ∷ without_return (c ∷ bytes)

-- a byte order mark at the very start is dropped
abbrev pub byte_order_mark : List ℕ
byte_order_mark = 239 ∷ 187 ∷ 191 ∷ []

abbrev pub without_mark : List ℕ → List ℕ
without_mark bytes = if starts_with nat_eq bytes byte_order_mark then drop (length byte_order_mark) bytes
    else bytes

-- the lines of a file
abbrev pub lines_of : List ℕ → List (List ℕ)
lines_of bytes = map without_return (pieces_by_feed (without_mark bytes))

-- what stands between bytes of no name, empty pieces among it
abbrev pub pieces_by_blank : List ℕ → List (List ℕ)
pieces_by_blank [] = [] ∷ []
pieces_by_blank (b ∷ bytes) = if is_name_byte b then onto_first b (pieces_by_blank bytes)
    else [] ∷ pieces_by_blank bytes

-- a field where it stands: column counts its first byte in the line, from 1
pub record Field : Type 0 where
  pub column : ℕ
  pub text : List ℕ

-- the pieces that are not empty, the first of all beginning at this column, with one byte between neighbours
abbrev pub fields_from : ℕ → List (List ℕ) → List Field
fields_from column [] = []
fields_from column ([] ∷ pieces) = fields_from (column + 1) pieces
fields_from column ((b ∷ bytes) ∷ pieces) =
    (record { column = column; text = b ∷ bytes }) ∷ fields_from (column + length (b ∷ bytes) + 1) pieces

-- the fields of a line where they stand: its longest runs of name bytes
abbrev pub placed_fields_of : List ℕ → List Field
placed_fields_of line = fields_from 1 (pieces_by_blank line)

abbrev pub fields_of : List ℕ → List (List ℕ)
fields_of line = map (λ field. field.text) (placed_fields_of line)

-- what may be wrong with the text of a line
pub data TextFault : Type 0 where
  bad_byte : TextFault
  long_name : TextFault

-- the fault stands at this column: a bad byte, or the first byte that is too many of a name
abbrev pub HasTextFault : List ℕ → TextFault → ℕ → Type 0
HasTextFault line bad_byte column = (before : List ℕ) × (b : ℕ) × (after : List ℕ)
    × (line ≡ before ++ b ∷ after) × (column ≡ length before + 1) × (is_bad_byte b ≡ true)
HasTextFault line long_name column = (field : Field) × Contains (placed_fields_of line) field
    × (most_name_bytes < length field.text) × (column ≡ field.column + most_name_bytes)

-- the first fault of the line
abbrev pub IsFirstTextFault : List ℕ → TextFault → ℕ → Type 0
IsFirstTextFault line fault column = HasTextFault line fault column
    × ((other : TextFault) (elsewhere : ℕ) → HasTextFault line other elsewhere → column ≤ elsewhere)

-- nothing is wrong with the text of the line
abbrev pub IsSoundLine : List ℕ → Type 0
IsSoundLine line = (fault : TextFault) (column : ℕ) → HasTextFault line fault column → ⊥
