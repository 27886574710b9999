-- How the check of a proof ends.
use Rattle.std.proofs.Common.{◌≡◌, ◌≢◌, ◌∙◌, inl, inr, ℕ, Option, Some, IfSome, Err, List, false, true≢false, refl, sym, ap, subst}
use Rattle.mine_model.specs.declared.fault.Fault.TheVariants.{Read, Write}
use Rattle.mine_model.specs.declared.fault.Which.{Which}
use Rattle.mine_model.specs.declared.fault.Which.TheVariants.{Proof}
use Rattle.mine_model.specs.declared.mined.Work.{Work}
use Rattle.mine_model.specs.Text.{lines_of}
use Rattle.mining_job.specs.Problems.{Problem}
use Rattle.text_ports.specs.Lines.{OfBytes}
use Rattle.pattern_proof.specs.declared.fault.ProofFault.{ProofFault}
use Rattle.pattern_proof.specs.declared.fault.ProofFault.TheVariants as own
use Rattle.pattern_proof.specs.Judging.{IsProofRefusal}
use Rattle.pattern_proof.specs.Proofs.{IsGood}
use Rattle.proof_names.specs.NamedRefusals.{IsProofFileRefusal}
use Rattle.proof_names.specs.Numberings.{IsNumbering, fault_of}
use Rattle.proof_names.proofs.NumberedLemmas.{good-named, refused-named}
use Rattle.command_line.specs.Words.{Task, check, Command, IsCommand, IsOfFile}
use Rattle.desq_run.specs.Said.{checked_text}
use Rattle.desq_run.specs.Ends.{Input, IsInput, bytes_named, checked_in, known_names, input_data, RefusesProof, IsAccepted, HasGoodProof, IsTextOf, IsAnswerText, IsOfKind, HoldsData, MayEndWith}
use Rattle.desq_run.specs.Ends as ends
use Rattle.desq_run.specs.Inputs.{IsJobFor}
use Rattle.desq_run.specs.Tasks.{IsDone, IsJudged}
use Rattle.desq_run.proofs.EndLemmas.{IfSome-at, same_command, held}
use Rattle.desq_run.proofs.KnownLemmas.{says-unique}
use Rattle.desq_run.proofs.JobLemmas.{job-source, job-hierarchy, job-data, job-rows, job_tree, job-says, job-numbers}

-- only a fault of reading is one of the proof
pub read-cause : (fault : ProofFault) (file : Which) → fault_of fault ≡ Read file → fault ≡ own.ReadFault
read-cause own.ReadFault file same = refl
read-cause own.NoMemory file same = absurd (cc)
read-cause own.TooLarge file same = absurd (cc)
read-cause (own.BadByte line column) file same = absurd (cc)
read-cause (own.NameTooLong line column) file same = absurd (cc)
read-cause (own.BadProof line) file same = absurd (cc)

-- none is one of writing
pub no-write-cause : (fault : ProofFault) → fault_of fault ≡ Write → ⊥
no-write-cause own.ReadFault same = cc
no-write-cause own.NoMemory same = cc
no-write-cause own.TooLarge same = cc
no-write-cause (own.BadByte line column) same = cc
no-write-cause (own.NameTooLong line column) same = cc
no-write-cause (own.BadProof line) same = cc

module _ (words : List (List ℕ)) (holds : List ℕ → Option (List ℕ)) (c : Command) (said : IsCommand words c) (names : List (List ℕ)) (problem : Problem)
    (job : IsJobFor holds c names problem) (of_file : IsOfFile c) (file : List ℕ) (task : c.task ≡ check file) where
  module _ (input : Input) (is : IsInput words holds input) where
    same : c ≡ input.command
    same = same_command words holds c (said, job.source) input is

    task_here : input.command.task ≡ check file
    task_here = sym (ap (λ (d : Command). d.task) same) ∙ task

    told : holds file ≡ Some input.proof
    told = subst (λ (t : Task). bytes_named holds (checked_in t) ≡ Some input.proof) task_here is.proof

    held_here : HoldsData holds c input
    held_here = held words holds c (said, job.source) input is

    numbers : IsNumbering (input_data input (job_tree words holds c said names problem job)) (known_names input) names problem
    numbers = job-numbers words holds c said names problem job input held_here of_file

    refused_here : (fault : ProofFault) → IfSome (holds file) (λ bytes. IsProofRefusal problem names bytes fault) → RefusesProof input.command.task input (fault_of fault)
    refused_here fault refused = subst (λ (t : Task). RefusesProof t input (fault_of fault)) (sym task_here) (
      job_tree words holds c said names problem job,
      job-says words holds c said names problem job input held_here,
      (refused-named (input_data input (job_tree words holds c said names problem job)) (known_names input) names problem numbers input.proof).0 fault
          (IfSome-at (λ bytes. IsProofRefusal problem names bytes fault) (holds file) input.proof refused told),
    )

    -- the bytes that were read are those of the input
    bytes_here : (bytes : List ℕ) → IfSome (holds file) (λ own. bytes ≡ own) → bytes ≡ input.proof
    bytes_here bytes was = IfSome-at (λ own. bytes ≡ own) (holds file) input.proof was told

    accepted_here : OfBytes (holds file) (λ bytes. (fault : ProofFault) → IsProofRefusal problem names bytes fault → ⊥) → IsAccepted input
    accepted_here (bytes, were, none) fault (inl refused) = job-rows words holds c said names problem job input is fault refused
    accepted_here (bytes, were, none) fault (inr last) =
        let (tree, says, refusal) = subst (λ (t : Task). RefusesProof t input fault) task_here last.1 in
        let one = says-unique input.command.source tree (job_tree words holds c said names problem job) says (job-says words holds c said names problem job input held_here) in
        let there : IsProofFileRefusal (input_data input (job_tree words holds c said names problem job)) (known_names input) input.proof fault =
        subst (λ t. IsProofFileRefusal (input_data input t) (known_names input) input.proof fault) one refusal in
        let (cause, is_cause, refuses) =
        (refused-named (input_data input (job_tree words holds c said names problem job)) (known_names input) names problem numbers input.proof).1 fault there in
        none cause (subst (λ b. IsProofRefusal problem names b cause) (sym (bytes_here bytes were.same)) refuses)

    good_here : (count : ℕ) → OfBytes (holds file) (λ bytes. IsGood problem names (lines_of bytes) count) → HasGoodProof input count
    good_here count (bytes, were, good) = (
      job_tree words holds c said names problem job,
      job-says words holds c said names problem job input held_here,
      (good-named (input_data input (job_tree words holds c said names problem job)) (known_names input) names problem numbers (lines_of input.proof) count).0
          (subst (λ b. IsGood problem names (lines_of b) count) (bytes_here bytes were.same) good),
    )

  -- what was read and not refused is judged
  pub judged : (count : ℕ) → OfBytes (holds file) (λ bytes. IsGood problem names (lines_of bytes) count)
      → OfBytes (holds file) (λ bytes. (fault : ProofFault) → IsProofRefusal problem names bytes fault → ⊥) → IsJudged words holds c count
  judged count good accepted = record {
    source = job-source words holds c said names problem job;
    hierarchy = job-hierarchy words holds c said names problem job;
    mined = job-data words holds c said names problem job;
    accepted = λ input is. accepted_here input is accepted;
    good = λ input is. good_here input is count good;
  }

  refused_end : (fault : ProofFault) → IfSome (holds file) (λ bytes. IsProofRefusal problem names bytes fault) → IsOfKind Proof (fault_of fault)
      → MayEndWith words holds (Err (fault_of fault))
  refused_end fault refused of_kind = ends.refused_file c (fault_of fault) (job-source words holds c said names problem job)
      (λ input is. inr ((λ other first. job-rows words holds c said names problem job input is other first), refused_here input is fault refused))
      (λ bytes other read also. absurd (job-hierarchy words holds c said names problem job bytes other read also))
      (inl (Proof, (file, task), of_kind))
      (record { proof = λ of_proof. job-data words holds c said names problem job; other = λ none. absurd (none of_kind) })

  -- how a run ends where the proof is refused or not read
  pub judging-ends : (fault : ProofFault)
      → (fault ≢ own.ReadFault → fault ≢ own.NoMemory → IfSome (holds file) (λ bytes. IsProofRefusal problem names bytes fault))
      → MayEndWith words holds (Err (fault_of fault))
  judging-ends own.ReadFault refused =
      ends.read_fault c Proof (job-source words holds c said names problem job) (file, task) (λ other. cc)
      (λ same. (job-hierarchy words holds c said names problem job, job-data words holds c said names problem job))
  judging-ends own.NoMemory refused = ends.no_memory
  judging-ends own.TooLarge refused = refused_end own.TooLarge (refused (λ e. cc) (λ e. cc)) refl
  judging-ends (own.BadByte line column) refused = refused_end (own.BadByte line column) (refused (λ e. cc) (λ e. cc)) refl
  judging-ends (own.NameTooLong line column) refused = refused_end (own.NameTooLong line column) (refused (λ e. cc) (λ e. cc)) refl
  judging-ends (own.BadProof line) refused = refused_end (own.BadProof line) (refused (λ e. cc) (λ e. cc)) refl

module _ (words : List (List ℕ)) (holds : List ℕ → Option (List ℕ)) (c : Command) (count : ℕ) (judgement : IsJudged words holds c count) where
  -- a check is done, and has no work to tell
  pub judged-done : (work : Work) → c.stats ≡ false → IsDone words holds c work
  judged-done work untold = record {
    source = judgement.source;
    hierarchy = judgement.hierarchy;
    mined = judgement.mined;
    accepted = judgement.accepted;
    work = λ asked input is. absurd (true≢false (sym asked ∙ untold));
  }

  pub judged-text : (file : List ℕ) → c.task ≡ check file → (input : Input) → IsInput words holds input → IsAnswerText input (checked_text count)
  judged-text file task input is =
      let here : input.command.task ≡ check file = sym (ap (λ (d : Command). d.task) (same_command words holds c judgement.source input is)) ∙ task in
      subst (λ (t : Task). IsTextOf t input (checked_text count)) (sym here) (count, judgement.good input is, refl)
