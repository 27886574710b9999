-- How a check of a proof file takes and refuses lines.
use Rattle.std.specs.Prelude.{◌≡◌, ℕ, ◌⊎◌, List, option_map}
use Rattle.pattern_proof.specs.declared.fault.ProofFault.{ProofFault}
use Rattle.pattern_proof.specs.declared.fault.ProofFault.TheVariants.{BadProof, NoMemory}
use Rattle.pattern_proof.specs.declared.open_row.Above.{Above}
use Rattle.pattern_proof.specs.declared.reading.Check.{Check}
use Rattle.pattern_proof.specs.ProofLines.{AreFileNames}
use Rattle.pattern_proof.specs.Standing.{OpenRow, Standing, StepsTo, RefusesAt}

abbrev pub open_row_of : Above → OpenRow
open_row_of above = record { row = above.row; line = above.line; weight = above.weight; least = above.least }

abbrev pub standing_of : Check → Standing
standing_of check = record { rows = check.rows; current = option_map open_row_of check.current }

-- the line was taken
pub record TookLine (before : Check) (number : ℕ) (text : List ℕ) (after : Check) : Type 0 where
  pub job : after.job.now ≡ before.job.now
  pub names : after.names.now ≡ before.names.now
  pub step : StepsTo before.job.now before.names.now (standing_of before) number text (standing_of after)

-- the line was refused, where the names are those of files; want of memory may come at any time
abbrev pub RefusedLine : Check → ℕ → List ℕ → ProofFault → Check → Type 0
RefusedLine before number text fault after = (fault ≡ NoMemory)
    ⊎ ((line : ℕ) × (fault ≡ BadProof line) × (AreFileNames before.names.now
    → RefusesAt before.job.now before.names.now (standing_of before) number text fault))
