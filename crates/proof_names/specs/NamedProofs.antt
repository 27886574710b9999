-- Proofs of an answer over names, and when a proof is good. This program's own.
use Rattle.std.specs.Prelude.{◌≡◌, ◌≢◌, ℕ, ◌+◌, ◌≤◌, false, ◌⊎◌, Some, List, [], ◌∷◌, ◌++◌, map, length, Contains}
use Rattle.std.specs.List.{AllByRecursion, slice_get, slice_index_or, flat_map, join_with_byte}
use Rattle.mine_model.specs.Answer.{Data, NamedRow, Rises}
use Rattle.mine_model.specs.AnswerText.{line_of}
use Rattle.mine_model.specs.Bytes.{tab, space}
use Rattle.mine_model.specs.Generation.{IsPatternOf}
use Rattle.mine_model.specs.Grammar.{IsDecimal}
use Rattle.mine_model.specs.Limits.{most_support}
use Rattle.mine_model.specs.Support.{Sequence}
use Rattle.fst_compile.specs.Shape.{unfold_tree}
use Rattle.pattern_proof.specs.ProofLines.{Cited, SaysPath, path_line_of}
use Rattle.pattern_proof.specs.Proofs.{RiseByPlace}
use Rattle.pattern_proof.specs.Runs.{Passes}

-- a row of a proof, and the paths that are cited for it
pub record ProofRow : Type 0 where
  pub row : NamedRow
  pub paths : List Cited

-- The line says the row: digits of its support, one tab, its names with one space between. The pattern is not
-- empty, and its names are among these.
abbrev pub SaysNamedRow : List (List ℕ) → List ℕ → NamedRow → Type 0
SaysNamedRow known text row = (digits : List ℕ)
    × (text ≡ digits ++ tab ∷ join_with_byte space row.pattern)
    × IsDecimal digits row.support × (row.pattern ≢ []) × AllByRecursion (Contains known) row.pattern

-- a row line begins a row, and a path line is one more path of the last row
abbrev pub AddsLine : List (List ℕ) → List ProofRow → List ℕ → List ProofRow → Type 0
AddsLine known before text after =
    ((row : NamedRow) × SaysNamedRow known text row
    × (after ≡ before ++ (record { row = row; paths = [] }) ∷ []))
    ⊎ ((earlier : List ProofRow) × (last : ProofRow) × (path : Cited) × (before ≡ earlier ++ last ∷ [])
    × SaysPath text path × (after ≡ earlier ++ (record last { paths = last.paths ++ path ∷ [] }) ∷ []))

-- behind the rows before, the lines say more, one line after another
abbrev pub AddLines : List (List ℕ) → List ProofRow → List (List ℕ) → List ProofRow → Type 0
AddLines known before [] after = after ≡ before
AddLines known before (text ∷ lines) after =
    (between : List ProofRow) × AddsLine known before text between × AddLines known between lines after

-- the lines say the rows with their paths
abbrev pub SayRows : List (List ℕ) → List (List ℕ) → List ProofRow → Type 0
SayRows known lines rows = AddLines known [] lines rows

-- the path is one over a sequence of the data, and writes the pattern
abbrev pub Shows : Data (List ℕ) → List (List ℕ) → Cited → Type 0
Shows d pattern path = (sequence : Sequence (List ℕ)) × (slice_get d.sequences path.place ≡ Some sequence)
    × Passes d.links (unfold_tree d.expression false) 0 path.states sequence.items pattern

-- what the sequences of the paths weigh together
abbrev pub shown_weight : Data (List ℕ) → List Cited → ℕ
shown_weight d [] = 0
shown_weight d (path ∷ paths) =
    (slice_index_or d.sequences path.place (record { items = []; weight = 0 })).weight + shown_weight d paths

-- the support is from the threshold to the greatest that is taken
abbrev pub IsClaim : Data (List ℕ) → NamedRow → Type 0
IsClaim d row = (d.threshold ≤ row.support) × (row.support ≤ most_support)

-- the sequences of the paths weigh at least the support
abbrev pub IsShown : Data (List ℕ) → ProofRow → Type 0
IsShown d row = row.row.support ≤ shown_weight d row.paths

-- the row is proved: its support is in its range, and its paths show it, each over another sequence, by
-- rising number
pub record IsProvedRow (d : Data (List ℕ)) (row : ProofRow) : Type 0 where
  pub claim : IsClaim d row.row
  pub each : AllByRecursion (Shows d row.row.pattern) row.paths
  pub rise : RiseByPlace row.paths
  pub enough : IsShown d row

-- the lines are a good proof with so many rows, where these names are known
pub record IsGoodProof (d : Data (List ℕ)) (known lines : List (List ℕ)) (count : ℕ) : Type 0 where
  pub rows : List ProofRow
  pub said : SayRows known lines rows
  pub ordered : Rises (map (λ row. row.row) rows)
  pub proved : AllByRecursion (IsProvedRow d) rows
  pub counted : count ≡ length rows

-- there is one path over each sequence that has the pattern, by rising number, and no other
pub record IsFullRow (d : Data (List ℕ)) (row : ProofRow) : Type 0 where
  pub each : AllByRecursion (Shows d row.row.pattern) row.paths
  pub rise : RiseByPlace row.paths
  pub all : (place : ℕ) (sequence : Sequence (List ℕ)) → slice_get d.sequences place ≡ Some sequence
      → IsPatternOf d.links d.expression sequence.items row.row.pattern
      → Contains (map (λ path. path.place) row.paths) place

-- how a proof is written: numbers without leading zeros
abbrev pub proof_text : List ProofRow → List ℕ
proof_text rows = flat_map (λ row. line_of row.row ++ flat_map path_line_of row.paths) rows

-- the text is a proof of the rows: below each one path over each sequence that has it
pub record IsProofText (d : Data (List ℕ)) (answer : List NamedRow) (text : List ℕ) : Type 0 where
  pub rows : List ProofRow
  pub same : map (λ row. row.row) rows ≡ answer
  pub full : AllByRecursion (IsFullRow d) rows
  pub written : text ≡ proof_text rows
