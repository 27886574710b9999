-- What is refused of a proof file, and which refusal comes first. This program's own.
use Rattle.std.specs.Prelude.{◌≡◌, ℕ, ◌+◌, ◌<◌, ◌⊎◌, false, List, [], ◌∷◌, ◌++◌, length}
use Rattle.std.specs.List.{AllByRecursion}
use Rattle.mine_model.specs.declared.row.Row.{Row}
use Rattle.mine_model.specs.Answer.{ComesBefore}
use Rattle.mine_model.specs.First.{FirstOf, FirstAmong}
use Rattle.mine_model.specs.Limits.{most_file_bytes}
use Rattle.mine_model.specs.Names.{named_row}
use Rattle.mine_model.specs.Text.{lines_of, bad_byte, long_name, IsFirstTextFault}
use Rattle.mining_job.specs.Problems.{Problem}
use Rattle.pattern_proof.specs.declared.fault.ProofFault.{ProofFault}
use Rattle.pattern_proof.specs.declared.fault.ProofFault.TheVariants.{TooLarge, BadByte, NameTooLong, BadProof}
use Rattle.pattern_proof.specs.ProofLines.{Cited, Entry, is_path_line, SaysRow, SaysPath, Say}
use Rattle.pattern_proof.specs.Proofs.{IsGoodPath, IsInRange, IsEnough}

-- the row comes after that of the last entry, if there is one
abbrev pub IsBehind : List (List ℕ) → List Entry → Row → Type 0
IsBehind names before row = (earlier : List Entry) (last : Entry) → before ≡ earlier ++ last ∷ []
    → ComesBefore (named_row names last.row) (named_row names row)

-- the path is good for the row of the entry, and over a later sequence than its other paths
pub record IsNextPath (problem : Problem) (entry : Entry) (path : Cited) : Type 0 where
  pub good : IsGoodPath problem entry.row path
  pub later : AllByRecursion (λ other. other.place < path.place) entry.paths

-- behind these entries the line is good: a row in its place, or a path under a row
abbrev pub IsGoodLine : Problem → List (List ℕ) → List Entry → List ℕ → Type 0
IsGoodLine problem names before text =
    ((row : Row) × SaysRow names text row × IsInRange problem row × IsBehind names before row)
    ⊎ ((earlier : List Entry) × (last : Entry) × (path : Cited) × (before ≡ earlier ++ last ∷ [])
    × SaysPath text path × IsNextPath problem last path)

-- the lines end with an entry whose paths do not weigh enough; its row stands on the line with this number
abbrev pub EndUnproved : Problem → List (List ℕ) → List (List ℕ) → ℕ → Type 0
EndUnproved problem names lines number = (earlier : List Entry) × (last : Entry)
    × Say names lines (earlier ++ last ∷ []) × (IsEnough problem last → ⊥)
    × (number + length last.paths ≡ length lines)

-- the text of the line with this number is at fault
abbrev pub IsTextRefusal : ℕ → List ℕ → ProofFault → Type 0
IsTextRefusal number text fault = (column : ℕ)
    × ((IsFirstTextFault text bad_byte column × (fault ≡ BadByte number column))
    ⊎ (IsFirstTextFault text long_name column × (fault ≡ NameTooLong number column)))

-- The line is refused behind these lines: for its text; then, where it is a row line, the row before it is
-- refused for its support; then the line is refused for what it says.
abbrev pub IsLineRefusal : Problem → List (List ℕ) → List (List ℕ) → List ℕ → ProofFault → Type 0
IsLineRefusal problem names before text = FirstOf (IsTextRefusal (length before + 1) text)
    (FirstOf (λ fault. (number : ℕ) × (is_path_line text ≡ false) × EndUnproved problem names before number
    × (fault ≡ BadProof number))
    (λ fault. (entries : List Entry) × Say names before entries × (IsGoodLine problem names entries text → ⊥)
    × (fault ≡ BadProof (length before + 1))))

-- the first refusal of the lines; the support of the last row is judged at the end
abbrev pub AreRefused : Problem → List (List ℕ) → List (List ℕ) → ProofFault → Type 0
AreRefused problem names lines = FirstOf (FirstAmong (IsLineRefusal problem names) [] lines)
    (λ fault. (number : ℕ) × EndUnproved problem names lines number × (fault ≡ BadProof number))

-- the first refusal of a proof file
abbrev pub IsProofRefusal : Problem → List (List ℕ) → List ℕ → ProofFault → Type 0
IsProofRefusal problem names bytes =
    FirstOf (λ fault. (most_file_bytes < length bytes) × (fault ≡ TooLarge))
    (AreRefused problem names (lines_of bytes))
