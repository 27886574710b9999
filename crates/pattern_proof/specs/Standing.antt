-- What a check of a proof file remembers of the lines that it took.
use Rattle.std.specs.Prelude.{◌≡◌, ℕ, ◌+◌, ◌≤◌, ◌<◌, ◌↔◌, ◌⊎◌, true, false, List, [], ◌∷◌, ◌++◌, length, Option, Some, None, IfSome}
use Rattle.std.specs.List.{AllByRecursion}
use Rattle.mine_model.specs.declared.row.Row.{Row}
use Rattle.mine_model.specs.Answer.{ComesBefore}
use Rattle.mine_model.specs.Database.{sequence_at}
use Rattle.mine_model.specs.Names.{named_row}
use Rattle.mine_model.specs.Text.{IsSoundLine}
use Rattle.mining_job.specs.Problems.{Problem}
use Rattle.pattern_proof.specs.declared.fault.ProofFault.{ProofFault}
use Rattle.pattern_proof.specs.declared.fault.ProofFault.TheVariants.{BadProof}
use Rattle.pattern_proof.specs.ProofLines.{Cited, Entry, is_path_line, SaysRow, SaysPath}
use Rattle.pattern_proof.specs.Proofs.{IsGoodPath, IsInRange, weight_of}

-- the row whose paths are read: its line, what its paths weigh, and the least number that the sequence of the
-- next path may have
pub record OpenRow : Type 0 where
  pub row : Row
  pub line : ℕ
  pub weight : ℕ
  pub least : ℕ

-- how many rows were read, and the last of them
pub record Standing : Type 0 where
  pub rows : ℕ
  pub current : Option OpenRow

abbrev pub at_start : Standing
at_start = record { rows = 0; current = None }

-- the paths of the row weigh enough
abbrev pub IsClosed : OpenRow → Type 0
IsClosed above = above.row.support ≤ above.weight

-- the row may come next
pub record MayFollow (problem : Problem) (names : List (List ℕ)) (before : Standing) (row : Row)
    : Type 0 where
  pub range : IsInRange problem row
  pub behind : IfSome before.current (λ above. ComesBefore (named_row names above.row) (named_row names row))

-- the path may come next under the row
pub record MayBeCited (problem : Problem) (above : OpenRow) (path : Cited) : Type 0 where
  pub good : IsGoodPath problem above.row path
  pub later : above.least ≤ path.place

abbrev pub opened : Standing → ℕ → Row → Standing
opened before number row = record {
  rows = before.rows + 1;
  current = Some (record { row = row; line = number; weight = 0; least = 0 });
}

abbrev pub cited : Problem → Standing → OpenRow → Cited → Standing
cited problem before above path = record {
  rows = before.rows;
  current = Some (record {
    row = above.row;
    line = above.line;
    weight = above.weight + (sequence_at problem.sequences path.place).weight;
    least = path.place + 1;
  });
}

-- the line with this number is taken
abbrev pub StepsTo : Problem → List (List ℕ) → Standing → ℕ → List ℕ → Standing → Type 0
StepsTo problem names before number text after = IsSoundLine text
    × (((row : Row) × SaysRow names text row × IfSome before.current IsClosed
    × MayFollow problem names before row × (after ≡ opened before number row))
    ⊎ ((above : OpenRow) × (path : Cited) × (before.current ≡ Some above) × SaysPath text path
    × MayBeCited problem above path × (after ≡ cited problem before above path)))

-- the line is refused: for the row before it, or for what it says
abbrev pub RefusesAt : Problem → List (List ℕ) → Standing → ℕ → List ℕ → ProofFault → Type 0
RefusesAt problem names before number text fault =
    ((above : OpenRow) × (is_path_line text ≡ false) × (before.current ≡ Some above) × (IsClosed above → ⊥)
    × (fault ≡ BadProof above.line))
    ⊎ ((is_path_line text ≡ false) × IfSome before.current IsClosed
    × ((row : Row) → SaysRow names text row → MayFollow problem names before row → ⊥)
    × (fault ≡ BadProof number))
    ⊎ ((is_path_line text ≡ true)
    × ((above : OpenRow) (path : Cited) → before.current ≡ Some above → SaysPath text path
    → MayBeCited problem above path → ⊥) × (fault ≡ BadProof number))

-- behind the last line: the last row is refused
abbrev pub RefusesEnd : Standing → ProofFault → Type 0
RefusesEnd after fault = (above : OpenRow) × (after.current ≡ Some above) × (IsClosed above → ⊥)
    × (fault ≡ BadProof above.line)

-- the last of the entries is the row that is open, and nothing is open where there are no entries
abbrev pub IsCurrent : Problem → ℕ → List Entry → Option OpenRow → Type 0
IsCurrent problem count entries None = entries ≡ []
IsCurrent problem count entries (Some above) = (earlier : List Entry) × (last : Entry)
    × (entries ≡ earlier ++ last ∷ []) × (above.row ≡ last.row)
    × (above.weight ≡ weight_of problem last.paths) × (above.line + length last.paths ≡ count)
    × ((place : ℕ) → (above.least ≤ place) ↔ AllByRecursion (λ other. other.place < place) last.paths)

-- it remembers these entries, behind so many lines
pub record Remembers (problem : Problem) (count : ℕ) (entries : List Entry) (standing : Standing)
    : Type 0 where
  pub rows : standing.rows ≡ length entries
  pub current : IsCurrent problem count entries standing.current
