-- Proofs of an answer, and when a proof is good. This program's own.
use Rattle.std.specs.Prelude.{◌≡◌, ℕ, ◌+◌, ◌≤◌, ◌<◌, List, [], ◌∷◌, map, length, Contains}
use Rattle.std.specs.List.{AllByRecursion, flat_map}
use Rattle.mine_model.specs.declared.row.Row.{Row}
use Rattle.mine_model.specs.Answer.{Rises}
use Rattle.mine_model.specs.Database.{sequence_at}
use Rattle.mine_model.specs.Generation.{IsPatternOf}
use Rattle.mine_model.specs.Limits.{most_support}
use Rattle.mine_model.specs.Names.{named_row}
use Rattle.mine_model.specs.Numbered.{tree_of}
use Rattle.mining_job.specs.Problems.{Problem, items_of}
use Rattle.pattern_proof.specs.Runs.{Writes}
use Rattle.pattern_proof.specs.ProofLines.{Cited, Entry, Say, text_of_entry}

-- the path is one over a sequence of the file, and writes the pattern of the row
pub record IsGoodPath (problem : Problem) (row : Row) (path : Cited) : Type 0 where
  pub there : path.place < length problem.sequences
  pub run : Writes problem path.place path.states row.pattern

-- each path is over an earlier sequence than all later paths
abbrev pub RiseByPlace : List Cited → Type 0
RiseByPlace [] = Unit {0}
RiseByPlace (path ∷ paths) = AllByRecursion (λ other. path.place < other.place) paths × RiseByPlace paths

-- what the sequences of the paths weigh together
abbrev pub weight_of : Problem → List Cited → ℕ
weight_of problem [] = 0
weight_of problem (path ∷ paths) = (sequence_at problem.sequences path.place).weight + weight_of problem paths

-- the paths are good for the row, each over another sequence, by rising number
pub record AreGoodPaths (problem : Problem) (entry : Entry) : Type 0 where
  pub each : AllByRecursion (IsGoodPath problem entry.row) entry.paths
  pub rise : RiseByPlace entry.paths

-- the support is from the threshold to the greatest that is taken
pub record IsInRange (problem : Problem) (row : Row) : Type 0 where
  pub least : problem.threshold ≤ row.support
  pub most : row.support ≤ most_support

-- the sequences of the paths weigh at least the support
abbrev pub IsEnough : Problem → Entry → Type 0
IsEnough problem entry = entry.row.support ≤ weight_of problem entry.paths

-- the entry proves its row
pub record IsProved (problem : Problem) (entry : Entry) : Type 0 where
  pub range : IsInRange problem entry.row
  pub paths : AreGoodPaths problem entry
  pub enough : IsEnough problem entry

abbrev pub RowsRise : List (List ℕ) → List Entry → Type 0
RowsRise names entries = Rises (map (λ entry. named_row names entry.row) entries)

-- the lines are a good proof file with so many rows
pub record IsGood (problem : Problem) (names : List (List ℕ)) (lines : List (List ℕ)) (rows : ℕ)
    : Type 0 where
  pub entries : List Entry
  pub said : Say names lines entries
  pub rise : RowsRise names entries
  pub proved : AllByRecursion (IsProved problem) entries
  pub counted : rows ≡ length entries

-- the paths are good, and there is one over each sequence that has the pattern
pub record IsFull (problem : Problem) (entry : Entry) : Type 0 where
  pub paths : AreGoodPaths problem entry
  pub all : (place : ℕ) → place < length problem.sequences
      → IsPatternOf problem.hierarchy.links (tree_of problem.transducer.expression)
      (items_of problem place) entry.row.pattern
      → Contains (map (λ path. path.place) entry.paths) place

-- the bytes are a proof of the rows: each row with one path over each sequence that has it
pub record IsProofOf (problem : Problem) (names : List (List ℕ)) (rows : List Row) (bytes : List ℕ)
    : Type 0 where
  pub entries : List Entry
  pub same : map (λ entry. entry.row) entries ≡ rows
  pub full : AllByRecursion (IsFull problem) entries
  pub text : bytes ≡ flat_map (text_of_entry names) entries
