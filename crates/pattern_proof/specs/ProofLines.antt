-- The lines of a proof file, and what they say. This program's own format.
use Rattle.std.specs.Prelude.{◌≡◌, ◌≢◌, ℕ, ◌+◌, ◌==◌, Bool, true, false, ◌⊎◌, List, [], ◌∷◌, ◌++◌, map}
use Rattle.std.specs.Fmt.{decimal}
use Rattle.std.specs.List.{AllByRecursion, flat_map, join_with_byte}
use Rattle.mine_model.specs.declared.row.Row.{Row}
use Rattle.mine_model.specs.Bytes.{tab, space, line_feed}
use Rattle.mine_model.specs.Text.{is_name_byte}
use Rattle.mine_model.specs.Tokens.{Each}
use Rattle.mine_model.specs.Grammar.{IsDecimal}
use Rattle.mine_model.specs.AnswerText.{line_of}
use Rattle.mine_model.specs.Names.{name_of, HasName, AreDistinct, named_row}

-- a path that is cited for a row: the number of its sequence, counted from 0, and its states
pub record Cited : Type 0 where
  pub place : ℕ
  pub states : List ℕ

-- a row, and the paths that are cited for it
pub record Entry : Type 0 where
  pub row : Row
  pub paths : List Cited

-- each word behind a space
abbrev pub spaced : List (List ℕ) → List ℕ
spaced words = flat_map (λ word. space ∷ word) words

-- the words are numbers in decimal digits, one by one
abbrev pub AreDecimals : List (List ℕ) → List ℕ → Type 0
AreDecimals [] [] = Unit {0}
AreDecimals [] (n ∷ numbers) = ⊥
AreDecimals (word ∷ words) [] = ⊥
AreDecimals (word ∷ words) (n ∷ numbers) = IsDecimal word n × AreDecimals words numbers

-- a line that begins with a tab is a path line, and each other line is a row line
abbrev pub is_path_line : List ℕ → Bool
is_path_line [] = false
is_path_line (b ∷ bytes) = b == tab

-- The line says the row: digits of its support, one tab, its names with one space between. The pattern is not
-- empty, and its names are known.
abbrev pub SaysRow : List (List ℕ) → List ℕ → Row → Type 0
SaysRow names text row = (digits : List ℕ)
    × (text ≡ digits ++ tab ∷ join_with_byte space (map (name_of names) row.pattern))
    × IsDecimal digits row.support × (row.pattern ≢ []) × AllByRecursion (HasName names) row.pattern

-- the line says the path: a tab, the line of its sequence, counted from 1, and a space before each state
abbrev pub SaysPath : List ℕ → Cited → Type 0
SaysPath text path = (digits : List ℕ) × (words : List (List ℕ))
    × (text ≡ tab ∷ digits ++ spaced words) × IsDecimal digits (path.place + 1)
    × AreDecimals words path.states

-- a row line begins an entry, and a path line is one more path of the last entry
abbrev pub GoesOn : List (List ℕ) → List Entry → List ℕ → List Entry → Type 0
GoesOn names before text after =
    ((row : Row) × SaysRow names text row × (after ≡ before ++ (record { row = row; paths = [] }) ∷ []))
    ⊎ ((earlier : List Entry) × (last : Entry) × (path : Cited) × (before ≡ earlier ++ last ∷ [])
    × SaysPath text path × (after ≡ earlier ++ (record last { paths = last.paths ++ path ∷ [] }) ∷ []))

-- behind the entries before, the lines say more, one line after another
abbrev pub SayMore : List (List ℕ) → List Entry → List (List ℕ) → List Entry → Type 0
SayMore names before [] after = after ≡ before
SayMore names before (text ∷ lines) after =
    (between : List Entry) × GoesOn names before text between × SayMore names between lines after

-- the lines say the entries
abbrev pub Say : List (List ℕ) → List (List ℕ) → List Entry → Type 0
Say names lines entries = SayMore names [] lines entries

-- names of files: they differ, none is empty, and they are of name bytes alone
pub record AreFileNames (names : List (List ℕ)) : Type 0 where
  pub distinct : AreDistinct names
  pub some : AllByRecursion (λ name. name ≢ []) names
  pub bytes : AllByRecursion (Each is_name_byte true) names

-- How a proof is written: numbers without leading zeros

abbrev pub path_line_of : Cited → List ℕ
path_line_of path =
    tab ∷ decimal (path.place + 1) ++ spaced (map (λ state. decimal state) path.states) ++ line_feed ∷ []

abbrev pub text_of_entry : List (List ℕ) → Entry → List ℕ
text_of_entry names entry = line_of (named_row names entry.row) ++ flat_map path_line_of entry.paths
