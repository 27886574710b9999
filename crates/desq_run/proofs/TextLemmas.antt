-- What is written by each task.
use Rattle.std.proofs.Common.{◌≡◌, ◌≢◌, ◌⊎◌, ◌∙◌, inl, true, false, ℕ, List, [], Option, Some, None, All, map, refl, sym, ap, subst}
use Rattle.std.specs.List.{AllByRecursion}
use Rattle.std.proofs.lemmas.Option.{none-some}
use Rattle.std.proofs.lemmas.List.Elements.{recursion_from_All}
use Rattle.mine_model.specs.declared.item.Item.{Item}
use Rattle.mine_model.specs.declared.row.Row.{Row}
use Rattle.mine_model.specs.Answer.{Data, NamedRow}
use Rattle.mine_model.specs.Expression.{Tree}
use Rattle.mine_model.specs.Generation.{IsPatternOf}
use Rattle.mine_model.specs.Names.{HasName, named_row, IsFileName}
use Rattle.mine_model.specs.Text.{lines_of, is_name_byte}
use Rattle.mine_model.specs.Tokens.{Each}
use Rattle.mine_model.proofs.ListLemmas.{AllByRecursion-weaker}
use Rattle.mine_model.proofs.OnceLemmas.{same_list_or_not}
use Rattle.answer_laws.proofs.ListingLemmas.{lists-discrete, listing-decides}
use Rattle.answer_laws.proofs.OutputLemmas.{patterns}
use Rattle.mine_model.specs.declared.mined.Work.{Work}
use Rattle.mining_job.specs.Problems.{Problem, data_of}
use Rattle.pattern_proof.specs.Writings.{AreOfAnswer, GainsProof, GainsPart}
use Rattle.proof_names.specs.NamedProofs.{IsGoodProof, IsProofText}
use Rattle.proof_names.specs.Numberings.{IsNumbering}
use Rattle.proof_names.proofs.ExistingProofLemmas.{has-proof}
use Rattle.proof_names.proofs.NumberedLemmas.{text-is-named}
use Rattle.proof_names.proofs.OneRefusalLemmas.{count-unique}
use Rattle.command_line.specs.declared.share.Share.{Share}
use Rattle.command_line.specs.Words.{read, merge, Task, mine, prove, check, Command, IsCommand, IsOfFile, SuitsTask, merged_in}
use Rattle.desq_run.specs.Sources.{SaysTree}
use Rattle.desq_run.specs.Said.{output_of, checked_text}
use Rattle.desq_run.specs.Ends.{Input, IsInput, checked_in, known_names, input_data, IsAccepted, AreRowsTo, IsTextOf, IsAnswerText, HoldsData}
use Rattle.desq_run.specs.Inputs.{HasRanges, IsMinedBy, AreFound, IsJobFor, IsMined}
use Rattle.desq_run.specs.Tasks.{IsDone, Gains, GainsFirst}
use Rattle.desq_run.proofs.EndLemmas.{rows-accepted, same_command, held}
use Rattle.desq_run.proofs.JobLemmas.{job_tree, job-says, job-numbers}
use Rattle.desq_run.proofs.ExistenceLemmas.{says-tree}
use Rattle.desq_run.proofs.KnownLemmas.{says-unique, known-files}
use Rattle.desq_run.proofs.SourceLemmas.{named-merged, rows-unique}

-- but for proofs one text is written
pub text-unique : (task : Task) (input : Input) (first second : List ℕ) → task ≢ prove → IsTextOf task input first → IsTextOf task input second → first ≡ second
text-unique mine input first second other (rows, is, text) (rows', is', text') =
    text ∙ ap (output_of input.command.source) (rows-unique input.command.share input.command.source input rows rows' is is') ∙ sym text'
text-unique prove input first second other is is' = absurd (other refl)
text-unique (check file) input first second other (count, (tree, says, good), text) (count', (tree', says', good'), text') =
    let clean = AllByRecursion-weaker IsFileName (Each is_name_byte true) (λ name is. is.1) (known_names input) (known-files input) in
    let also : IsGoodProof (input_data input tree) (known_names input) (lines_of input.proof) count' =
    subst (λ t. IsGoodProof (input_data input t) (known_names input) (lines_of input.proof) count') (says-unique input.command.source tree' tree says' says) good' in
    text ∙ ap checked_text (count-unique (known_names input) clean (input_data input tree) (lines_of input.proof) count count' good also) ∙ sym text'

-- it is decided of a sequence whether it has a pattern
decided : (d : Data (List ℕ)) (items pattern : List (List ℕ)) → IsPatternOf d.links d.expression items pattern ⊎ (IsPatternOf d.links d.expression items pattern → ⊥)
decided d items pattern =
    listing-decides (lists-discrete (List ℕ) same_list_or_not) (IsPatternOf d.links d.expression items) (patterns same_list_or_not d.links d.expression items) pattern

-- rows have a proof
pub proof-of : (d : Data (List ℕ)) (rows : List NamedRow) → (text : List ℕ) × IsProofText d rows text
proof-of d rows = has-proof d (decided d) rows

-- what is written of rows that were found, whatever is written, where no proof is checked
pub answer-text : (words : List (List ℕ)) (input : Input) → IsCommand words input.command → merged_in input.command.source ≡ [] → IsAccepted input
    → (rows : List NamedRow) → AreRowsTo input.command.share input.command.source input rows
    → (task : Task) → checked_in task ≡ None → (text : List ℕ) × IsTextOf task input text
answer-text words input said mined none rows are mine unchecked = (output_of input.command.source rows, (rows, are, refl))
answer-text words input said mined none rows are (check file) unchecked = absurd (none-some file (sym unchecked))
answer-text words input said mined none rows are prove unchecked =
    let (tree, says) = says-tree input.command.source (named-merged words input.command said mined) (λ fault refused. none fault (inl (inl (inl refused)))) in
    let (text, is) = proof-of (input_data input tree) rows in
    (text, (rows, are, (tree, says, is)))

-- rows with names
named-rows : (names : List (List ℕ)) (rows : List Row) → All (λ (row : Row). All (HasName names) row.pattern) rows
    → AllByRecursion (λ (row : Row). AllByRecursion (HasName names) row.pattern) rows
named-rows names rows named =
    AllByRecursion-weaker (λ (row : Row). All (HasName names) row.pattern) (λ (row : Row). AllByRecursion (HasName names) row.pattern)
    (λ row is. recursion_from_All (HasName names) row.pattern is) rows (recursion_from_All (λ (row : Row). All (HasName names) row.pattern) rows named)

-- A proof that was written by the numbers of names is one of the answer

module _ (input : Input) (tree : Tree (List ℕ)) (says : SaysTree input.command.source tree) (names : List (List ℕ)) (problem : Problem)
    (numbering : IsNumbering (input_data input tree) (known_names input) names problem) (rows : List Row)
    (named : All (λ (row : Row). All (HasName names) row.pattern) rows)
    (are : AreRowsTo input.command.share input.command.source input (map (named_row names) rows)) where
  some_proof : (text : List ℕ) × IsTextOf prove input text
  some_proof = let (text, is) = proof-of (input_data input tree) (map (named_row names) rows) in (text, (map (named_row names) rows, are, (tree, says, is)))

  pub proof-gained : (before after : Option (List ℕ)) → GainsProof problem names rows before after → Gains (IsTextOf prove input) before after
  proof-gained None after gains = (some_proof.0, some_proof.1, tt)
  proof-gained (Some told) after (bytes, proof, same) = (
    bytes,
    (map (named_row names) rows, are, (tree, says, text-is-named (input_data input tree) (known_names input) names problem numbering rows bytes (named-rows names rows named) proof)),
    same,
  )

  pub part-gained : (before after : Option (List ℕ)) → GainsPart problem names rows before after → GainsFirst (IsTextOf prove input) before after
  part-gained None after gains = (some_proof.0, some_proof.1, tt)
  part-gained (Some told) after (bytes, proof, n, less, same) = (
    bytes,
    (map (named_row names) rows, are, (tree, says, text-is-named (input_data input tree) (known_names input) names problem numbering rows bytes (named-rows names rows named) proof)),
    (n, less, same),
  )

-- What a run that mines leaves

module _ (words : List (List ℕ)) (holds : List ℕ → Option (List ℕ)) (c : Command) (names : List (List ℕ)) (rows : List Row) (work : Work)
    (mined : IsMined words holds c names rows work) where
  same : (input : Input) → IsInput words holds input → c ≡ input.command
  same input is = same_command words holds c mined.source input is

  task_of : (input : Input) → IsInput words holds input → c.task ≡ input.command.task
  task_of input is = ap (λ (d : Command). d.task) (same input is)

  -- where no proof is checked, it is done
  pub mined-done : ((file : List ℕ) → c.task ≡ check file → ⊥) → IsDone words holds c work
  mined-done unchecked = record {
    source = mined.source;
    hierarchy = mined.hierarchy;
    mined = mined.mined;
    accepted = λ input is. rows-accepted input (mined.accepted input is) (λ file own. unchecked file (task_of input is ∙ own));
    work = mined.work;
  }

  -- what is written of the rows is the text
  pub mined-text : c.task ≡ mine → (input : Input) → IsInput words holds input → IsAnswerText input (output_of c.source (map (named_row names) rows))
  mined-text task input is =
      subst (λ (t : Task). IsTextOf t input (output_of c.source (map (named_row names) rows))) (sym task ∙ task_of input is)
      (map (named_row names) rows, mined.answer input is, ap (λ (d : Command). output_of d.source (map (named_row names) rows)) (same input is))

  module _ (said : IsCommand words c) (problem : Problem) (job : IsJobFor holds c names problem) (of_file : IsOfFile c) (task : c.task ≡ prove)
      (named : All (λ (row : Row). All (HasName names) row.pattern) rows) (input : Input) (is : IsInput words holds input) (before after : Option (List ℕ)) where
    tells : HoldsData holds c input
    tells = held words holds c mined.source input is

    -- a proof that was written is the text, or its first bytes
    pub proof-text : GainsProof problem names rows before after → Gains (IsAnswerText input) before after
    proof-text gains = subst (λ (t : Task). Gains (IsTextOf t input) before after) (sym task ∙ task_of input is)
        (proof-gained input (job_tree words holds c said names problem job) (job-says words holds c said names problem job input tells) names problem
        (job-numbers words holds c said names problem job input tells of_file) rows named (mined.answer input is) before after gains)

    pub part-text : GainsPart problem names rows before after → GainsFirst (IsAnswerText input) before after
    part-text gains = subst (λ (t : Task). GainsFirst (IsTextOf t input) before after) (sym task ∙ task_of input is)
        (part-gained input (job_tree words holds c said names problem job) (job-says words holds c said names problem job input tells) names problem
        (job-numbers words holds c said names problem job input tells of_file) rows named (mined.answer input is) before after gains)

-- an expression on a file is one to mine by, and has no numbers

pub file-mined : (c : Command) → IsOfFile c → IsMinedBy c.source
file-mined c of_file files merged = let other : read of_file.expression of_file.file ≡ merge files = sym of_file.source ∙ merged in cc

pub file-ranges : (c : Command) → IsOfFile c → HasRanges c.source
file-ranges c of_file = subst HasRanges (sym of_file.source) tt

-- the rows of an answer, or of its part, are frequent
pub found-frequent : (Ties : Item → Item → Type 0) (share : Option Share) (problem : Problem) (rows : List Row) → AreFound Ties share (data_of problem) rows → AreOfAnswer problem rows
found-frequent Ties None problem rows found = λ row held. (found row).0 held
found-frequent Ties (Some share) problem rows (order, list, found) = λ row held. ((found row).0 held).0

pub suits-prove : (c : Command) → c.task ≡ prove → SuitsTask c.task c → IsOfFile c
suits-prove c task suits = subst (λ (t : Task). SuitsTask t c) task suits

pub suits-check : (c : Command) (file : List ℕ) → c.task ≡ check file → SuitsTask c.task c → IsOfFile c × (c.stats ≡ false)
suits-check c file task suits = let all = subst (λ (t : Task). SuitsTask t c) task suits in (all.0, all.2)
