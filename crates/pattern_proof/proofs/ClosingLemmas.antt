-- The end of a file: what the last row decides.
use Rattle.std.proofs.Common.{◌≡◌, ℕ, inl, inr, List, Option, Result, Ok, Err, IfOk, OnOk, IfSome, sym, subst, arith}
use Rattle.mine_model.specs.Text.{lines_of}
use Rattle.mining_job.specs.Problems.{Problem}
use Rattle.text_ports.specs.Lines.{WasGiven, WereRead, OfBytes}
use Rattle.text_ports.proofs.Told.{of_told}
use Rattle.pattern_proof.specs.declared.fault.ProofFault.{ProofFault}
use Rattle.pattern_proof.specs.ProofLines.{AreFileNames}
use Rattle.pattern_proof.specs.Proofs.{IsGood}
use Rattle.pattern_proof.specs.Judging.{IsProofRefusal}
use Rattle.pattern_proof.specs.Standing.{Standing, at_start, IsClosed, StepsTo, RefusesEnd}
use Rattle.pattern_proof.proofs.StandingLemmas.{steps-good, steps-accepted, steps-end-refused}

module _ (problem : Problem) (names : List (List ℕ)) (told : Option (List ℕ)) (after : Standing)
    (given : OfBytes told (λ bytes. WasGiven (StepsTo problem names) 1 (lines_of bytes) at_start after)) where
  pub end-good : (result : Result ℕ ProofFault) → IfOk result (λ rows. rows ≡ after.rows) → OnOk result (IfSome after.current IsClosed)
      → IfOk result (λ rows. OfBytes told (λ bytes. IsGood problem names (lines_of bytes) rows))
  end-good (Ok rows) same closed =
      let (bytes, read, steps) = given in
      (bytes, read, subst (IsGood problem names (lines_of bytes)) (sym same) (steps-good problem names (lines_of bytes) after steps closed))
  end-good (Err fault) same closed = tt

  module _ (known : AreFileNames names) where
    pub end-accepted : (result : Result ℕ ProofFault) → OnOk result (IfSome after.current IsClosed)
        → OnOk result (OfBytes told (λ bytes. (fault : ProofFault) → IsProofRefusal problem names bytes fault → ⊥))
    end-accepted (Ok rows) closed = let (bytes, read, steps) = given in (bytes, read, none bytes read steps)
      where
        none : (bytes : List ℕ) → WereRead told bytes → WasGiven (StepsTo problem names) 1 (lines_of bytes) at_start after → (fault : ProofFault) → IsProofRefusal problem names bytes fault → ⊥
        none bytes read steps fault (inl large) = let over = large.0 in let few = read.few in omega (arith, over, few)
        none bytes read steps fault (inr refused) = steps-accepted problem names known (lines_of bytes) after steps closed fault refused.1
    end-accepted (Err fault) closed = tt

    pub end-refused-by : (fault : ProofFault) → RefusesEnd after fault → IfSome told (λ bytes. IsProofRefusal problem names bytes fault)
    end-refused-by fault refuses =
        let (bytes, read, steps) = given in
        of_told told (λ b. IsProofRefusal problem names b fault) bytes read
        (inr ((λ other large. let over = large.0 in let few = read.few in omega (arith, over, few)), steps-end-refused problem names known (lines_of bytes) after fault steps refuses))
