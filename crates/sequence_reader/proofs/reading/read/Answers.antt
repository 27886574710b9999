use Rattle.std.proofs.Common.{◌≡◌, ◌≤◌, ℕ, Err, List, Option, IfSome, length, ap, subst}
use Rattle.mine_model.specs.Limits.{most_file_bytes}
use Rattle.mine_model.specs.Text.{lines_of}
use Rattle.mine_model.specs.Refusal.{IsSequencesRefusal}
use Rattle.sequence_reader.specs.Faults.{fault_of_sequences}
use Rattle.sequence_reader.specs.Taking.{IsTaken}
use Rattle.sequence_reader.proofs.TakingLemmas.{file-said, file-grown, file-accepted}
use Rattle.sequence_reader.proofs.reading.read.Goals as goal

pub returns-in-Ok-outcome-clause-sequences : goal.returns-in-Ok-outcome-clause-sequences
returns-in-Ok-outcome-clause-sequences g c =
    let (lines, taken, told) = c.in-Ok-outcome.ensures.taken in
    file-said _ c.args.weighted c.read_blocks-outcome.new.reading lines taken (g.F.Files.holds c.args.files.now c.args.name.now)
    (subst (λ (t : Option (List ℕ)). IfSome t (λ whole. (lines_of whole ≡ lines) × (length whole ≤ most_file_bytes))) c.in-Ok.ensures.opened told)

pub returns-in-Ok-outcome-clause-named : goal.returns-in-Ok-outcome-clause-named
returns-in-Ok-outcome-clause-named g c = let (lines, taken, told) = c.in-Ok-outcome.ensures.taken in taken.named

pub returns-in-Ok-outcome-clause-grown : goal.returns-in-Ok-outcome-clause-grown
returns-in-Ok-outcome-clause-grown g c =
    let (lines, taken, told) = c.in-Ok-outcome.ensures.taken in
    file-grown c.args.names.now c.args.weighted c.read_blocks-outcome.new.reading lines
    (subst (λ (names : List (List ℕ)). IsTaken names c.args.weighted lines c.read_blocks-outcome.new.reading) c.replace.ensures.value taken) (g.F.Files.holds c.args.files.now c.args.name.now)
    (subst (λ (t : Option (List ℕ)). IfSome t (λ whole. (lines_of whole ≡ lines) × (length whole ≤ most_file_bytes))) c.in-Ok.ensures.opened told)

pub returns-in-Ok-outcome-clause-accepted : goal.returns-in-Ok-outcome-clause-accepted
returns-in-Ok-outcome-clause-accepted g c =
    let (lines, taken, told) = c.in-Ok-outcome.ensures.taken in
    file-accepted c.args.names.now c.args.weighted c.read_blocks-outcome.new.reading lines
    (subst (λ (names : List (List ℕ)). IsTaken names c.args.weighted lines c.read_blocks-outcome.new.reading) c.replace.ensures.value taken) (g.F.Files.holds c.args.files.now c.args.name.now)
    (subst (λ (t : Option (List ℕ)). IfSome t (λ whole. (lines_of whole ≡ lines) × (length whole ≤ most_file_bytes))) c.in-Ok.ensures.opened told)

pub returns-in-Err-outcome-clause-refused : goal.returns-in-Err-outcome-clause-refused
returns-in-Err-outcome-clause-refused g c fault same read memory =
    let is : c.in-Err-outcome.fault ≡ fault = cc same in
    let first = c.in-Err-outcome.ensures.refused fault (ap Err is) read memory in
    subst (λ (names : List (List ℕ)). IfSome (g.F.Files.holds c.args.files.now c.args.name.now) (λ whole. IsSequencesRefusal c.args.weighted names whole (fault_of_sequences fault))) c.replace.ensures.value
    (subst (λ (t : Option (List ℕ)). IfSome t (λ whole. IsSequencesRefusal c.args.weighted c.replace.result whole (fault_of_sequences fault))) c.in-Ok.ensures.opened first)
