-- What a writer of a proof is to write, and what a sink gains of it. This program's own.
use Rattle.std.specs.Prelude.{◌≡◌, ℕ, ◌<◌, List, ◌++◌, Option, Some, IfSome, length, take, Contains}
use Rattle.mine_model.specs.declared.row.Row.{Row}
use Rattle.mine_model.specs.Answer.{IsFrequent}
use Rattle.mining_job.specs.Problems.{Problem, data_of}
use Rattle.pattern_proof.specs.Proofs.{IsProofOf}

-- the rows that are proved, with what they were found in, and the names of their items
pub record Writing : Type 0 where
  pub problem : Problem
  pub names : List (List ℕ)
  pub rows : List Row

-- the rows are frequent patterns with their supports
abbrev pub AreOfAnswer : Problem → List Row → Type 0
AreOfAnswer problem rows =
    (row : Row) → Contains rows row → IsFrequent (data_of problem) row.pattern row.support

-- the sink gained a proof of the rows
abbrev pub GainsProof : Problem → List (List ℕ) → List Row → Option (List ℕ) → Option (List ℕ) → Type 0
GainsProof problem names rows before after = IfSome before (λ told. (bytes : List ℕ)
    × IsProofOf problem names rows bytes × (after ≡ Some (told ++ bytes)))

-- the sink gained a part of a proof of the rows, from its start, and not all
abbrev pub GainsPart : Problem → List (List ℕ) → List Row → Option (List ℕ) → Option (List ℕ) → Type 0
GainsPart problem names rows before after = IfSome before (λ told. (bytes : List ℕ)
    × IsProofOf problem names rows bytes × (n : ℕ) × (n < length bytes)
    × (after ≡ Some (told ++ take n bytes)))
