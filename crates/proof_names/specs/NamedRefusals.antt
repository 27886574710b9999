-- What is refused of a proof file over names, and which refusal comes first. This program's own.
use Rattle.std.specs.Prelude.{◌≡◌, ℕ, ◌+◌, ◌<◌, ◌⊎◌, false, List, [], ◌∷◌, ◌++◌, length}
use Rattle.std.specs.List.{AllByRecursion}
use Rattle.mine_model.specs.declared.fault.Fault.{Fault}
use Rattle.mine_model.specs.declared.fault.Fault.TheVariants.{BadProof}
use Rattle.mine_model.specs.declared.fault.Which.TheVariants.{Proof}
use Rattle.mine_model.specs.Answer.{Data, NamedRow, ComesBefore}
use Rattle.mine_model.specs.First.{FirstOf, FirstAmong}
use Rattle.mine_model.specs.Refusal.{IsTooLarge, IsTextRefusal}
use Rattle.mine_model.specs.Text.{lines_of}
use Rattle.pattern_proof.specs.ProofLines.{Cited, is_path_line, SaysPath}
use Rattle.proof_names.specs.NamedProofs.{ProofRow, SaysNamedRow, SayRows, Shows, IsClaim, IsShown}

-- the row comes after the last of the rows before, if there is one
abbrev pub IsNextRow : List ProofRow → NamedRow → Type 0
IsNextRow before row = (earlier : List ProofRow) (last : ProofRow) → before ≡ earlier ++ last ∷ []
    → ComesBefore last.row row

-- the path shows the row, over a later sequence than its other paths
abbrev pub ShowsNext : Data (List ℕ) → ProofRow → Cited → Type 0
ShowsNext d row path =
    Shows d row.row.pattern path × AllByRecursion (λ other. other.place < path.place) row.paths

-- behind these rows the line is good: a row in its place, or a path that shows the last row
abbrev pub IsGoodBehind : Data (List ℕ) → List (List ℕ) → List ProofRow → List ℕ → Type 0
IsGoodBehind d known before text =
    ((row : NamedRow) × SaysNamedRow known text row × IsClaim d row × IsNextRow before row)
    ⊎ ((earlier : List ProofRow) × (last : ProofRow) × (path : Cited) × (before ≡ earlier ++ last ∷ [])
    × SaysPath text path × ShowsNext d last path)

-- the lines end with a row whose paths do not weigh enough, which stands on the line with this number
abbrev pub EndUnshown : Data (List ℕ) → List (List ℕ) → List (List ℕ) → ℕ → Type 0
EndUnshown d known lines number = (earlier : List ProofRow) × (last : ProofRow)
    × SayRows known lines (earlier ++ last ∷ []) × (IsShown d last → ⊥)
    × (number + length last.paths ≡ length lines)

-- The line is refused behind these lines: for its text; then, where it is a row line, the row before it is
-- refused for its support; then the line is refused for what it says.
abbrev pub IsProofLineRefusal : Data (List ℕ) → List (List ℕ) → List (List ℕ) → List ℕ → Fault → Type 0
IsProofLineRefusal d known before text = FirstOf (IsTextRefusal Proof (length before + 1) text)
    (FirstOf (λ fault. (number : ℕ) × (is_path_line text ≡ false) × EndUnshown d known before number
    × (fault ≡ BadProof number))
    (λ fault. (rows : List ProofRow) × SayRows known before rows × (IsGoodBehind d known rows text → ⊥)
    × (fault ≡ BadProof (length before + 1))))

-- the first refusal of a proof file; the support of the last row is judged at the end
abbrev pub IsProofFileRefusal : Data (List ℕ) → List (List ℕ) → List ℕ → Fault → Type 0
IsProofFileRefusal d known bytes = FirstOf (IsTooLarge Proof bytes)
    (FirstOf (FirstAmong (IsProofLineRefusal d known) [] (lines_of bytes))
    (λ fault. (number : ℕ) × EndUnshown d known (lines_of bytes) number × (fault ≡ BadProof number)))
