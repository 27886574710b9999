-- A check that read lines has judged them.
use Rattle.std.proofs.Common.{◌≡◌, ◌≢◌, ℕ, ◌+◌, ◌≤◌, inl, inr, List, [], ◌∷◌, length, sym, ap, ◌∙◌, subst, arith}
use Rattle.mine_model.specs.Limits.{most_file_bytes}
use Rattle.mine_model.specs.Text.{lines_of, bad_byte, long_name}
use Rattle.mining_job.specs.Problems.{Problem}
use Rattle.text_ports.specs.Lines.{WasGiven, TookAll, StoppedAt, Refused}
use Rattle.pattern_proof.specs.declared.fault.ProofFault.{ProofFault}
use Rattle.pattern_proof.specs.declared.fault.ProofFault.TheVariants.{BadByte, NameTooLong, NoMemory}
use Rattle.pattern_proof.specs.declared.reading.Check.{Check}
use Rattle.pattern_proof.specs.ProofLines.{AreFileNames}
use Rattle.pattern_proof.specs.Judging.{AreRefused, IsProofRefusal}
use Rattle.pattern_proof.specs.Standing.{at_start, StepsTo, RefusesAt}
use Rattle.pattern_proof.specs.Taking.{standing_of, TookLine, RefusedLine}
use Rattle.pattern_proof.proofs.StandingLemmas.{steps-refused, steps-stopped}

pub given-steps : (n : ℕ) (lines : List (List ℕ)) (before after : Check) → WasGiven TookLine n lines before after
    → (after.job.now ≡ before.job.now) × (after.names.now ≡ before.names.now)
    × WasGiven (StepsTo before.job.now before.names.now) n lines (standing_of before) (standing_of after)
given-steps n [] before after given = (ap (λ (c : Check). c.job.now) (sym given), ap (λ (c : Check). c.names.now) (sym given), ap standing_of given)
given-steps n (text ∷ lines) before after (between, took, given) =
    let (job, names, steps) = given-steps (n + 1) lines between after given in (
      job ∙ took.job,
      names ∙ took.names,
      (
        standing_of between,
        took.step,
        subst (λ (m : List (List ℕ)). WasGiven (StepsTo before.job.now m) (n + 1) lines (standing_of between) (standing_of after)) took.names
            (subst (λ (p : Problem). WasGiven (StepsTo p between.names.now) (n + 1) lines (standing_of between) (standing_of after)) took.job steps),
      ),
    )

module _ (check after : Check) (known : AreFileNames check.names.now) (start : standing_of check ≡ at_start) where
  begun : (lines : List (List ℕ)) (next : Check) → WasGiven TookLine 1 lines check next → WasGiven (StepsTo check.job.now check.names.now) 1 lines at_start (standing_of next)
  begun lines next given = subst (λ s. WasGiven (StepsTo check.job.now check.names.now) 1 lines s (standing_of next)) start (given-steps 1 lines check next given).2

  pub all-steps : (lines : List (List ℕ)) → TookAll TookLine lines check after → WasGiven (StepsTo check.job.now check.names.now) 1 lines at_start (standing_of after)
  all-steps lines took = begun lines after took.given

  whole : (bytes : List ℕ) (fault : ProofFault) → length bytes ≤ most_file_bytes → AreRefused check.job.now check.names.now (lines_of bytes) fault → IsProofRefusal check.job.now check.names.now bytes fault
  whole bytes fault few refused = inr ((λ other large. let over = large.0 in omega (arith, few, over)), refused)

  pub stopped-bad : (bytes : List ℕ) (line column : ℕ) → length bytes ≤ most_file_bytes → StoppedAt TookLine (lines_of bytes) check after bad_byte line column
      → IsProofRefusal check.job.now check.names.now bytes (BadByte line column)
  stopped-bad bytes line column few stop =
      whole bytes (BadByte line column) few
      (subst (λ l. AreRefused check.job.now check.names.now l (BadByte line column)) (sym stop.cut)
      (steps-stopped check.job.now check.names.now known stop.earlier stop.later stop.text (standing_of after) (BadByte line column) (begun stop.earlier after stop.taken.given)
      (column, inl (stop.stands, ap (λ n. BadByte n column) stop.number))))

  pub stopped-long : (bytes : List ℕ) (line column : ℕ) → length bytes ≤ most_file_bytes → StoppedAt TookLine (lines_of bytes) check after long_name line column
      → IsProofRefusal check.job.now check.names.now bytes (NameTooLong line column)
  stopped-long bytes line column few stop =
      whole bytes (NameTooLong line column) few
      (subst (λ l. AreRefused check.job.now check.names.now l (NameTooLong line column)) (sym stop.cut)
      (steps-stopped check.job.now check.names.now known stop.earlier stop.later stop.text (standing_of after) (NameTooLong line column) (begun stop.earlier after stop.taken.given)
      (column, inr (stop.stands, ap (λ n. NameTooLong n column) stop.number))))

  pub refused-line : (bytes : List ℕ) (fault : ProofFault) → length bytes ≤ most_file_bytes → Refused TookLine RefusedLine (lines_of bytes) check after fault → fault ≢ NoMemory
      → IsProofRefusal check.job.now check.names.now bytes fault
  refused-line bytes fault few refusal apart = by refusal.answer
    where
      at_line : RefusesAt refusal.between.job.now refusal.between.names.now (standing_of refusal.between) (length refusal.earlier + 1) refusal.text fault
          → RefusesAt check.job.now check.names.now (standing_of refusal.between) (length refusal.earlier + 1) refusal.text fault
      at_line refuses =
          let (job, names, steps) = given-steps 1 refusal.earlier check refusal.between refusal.taken.given in
          subst (λ (m : List (List ℕ)). RefusesAt check.job.now m (standing_of refusal.between) (length refusal.earlier + 1) refusal.text fault) names
          (subst (λ (p : Problem). RefusesAt p refusal.between.names.now (standing_of refusal.between) (length refusal.earlier + 1) refusal.text fault) job refuses)

      by : RefusedLine refusal.between (length refusal.earlier + 1) refusal.text fault after → IsProofRefusal check.job.now check.names.now bytes fault
      by (inl none) = absurd (apart none)
      by (inr (line, is, refuses)) =
          whole bytes fault few
          (subst (λ l. AreRefused check.job.now check.names.now l fault) (sym refusal.cut)
          (steps-refused check.job.now check.names.now known refusal.earlier refusal.later refusal.text (standing_of refusal.between) fault
          (begun refusal.earlier refusal.between refusal.taken.given) refusal.sound (at_line (refuses known_between))))
        where
          known_between : AreFileNames refusal.between.names.now
          known_between = subst AreFileNames (sym (given-steps 1 refusal.earlier check refusal.between refusal.taken.given).1) known
