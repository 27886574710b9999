use Rattle.std.proofs.Common.{◌≡◌, ◌++◌, Ok, false, length, IfSome, refl, ◌∙◌, ap, sym, subst, arith}
use Rattle.std.proofs.lemmas.List.{append-nil}
use Rattle.mine_model.specs.First.{FirstAmong}
use Rattle.mine_model.specs.Refusal.{IsSequenceLineRefusal, IsSequencesRefusal}
use Rattle.text_ports.specs.Scanning.{lines_behind}
use Rattle.sequence_reader.specs.declared.sequence_fault.SequenceFault.{SequenceFault}
use Rattle.sequence_reader.specs.Faults.{fault_of_sequences}
use Rattle.sequence_reader.specs.Taking.{IsTaken, all_waiting, with_waiting}
use Rattle.sequence_reader.proofs.TakingLemmas.{IsTaken-same}
use Rattle.sequence_reader.proofs.RefusalLemmas.{line-refused}
use Rattle.sequence_reader.proofs.reading.read_block.Goals as goal

pub returns-then-branch-clause-taken : goal.returns-then-branch-clause-taken
returns-then-branch-clause-taken g c = c.read_apart.ensures.taken (c.in_ok-read_apart.was ∙ ap Ok c.if-branch.true)

pub returns-in-Ok-clause-taken : goal.returns-in-Ok-clause-taken
returns-in-Ok-clause-taken g c known lines weighted taken =
    let none : c.read_apart.result ≡ Ok false = c.in_ok-read_apart.was ∙ ap Ok c.if-branch.false in
    let after = c.in-Ok.ensures.taken known lines weighted (c.read_apart.ensures.untaken none known lines weighted taken) in
    subst (λ l. IsTaken known weighted (lines ++ lines_behind l) (with_waiting c.read_in_order.new.reading c.read_apart.new.waiting.items)) c.text.ensures.text
    (IsTaken-same known weighted (lines ++ lines_behind c.text.result.now) c.read_in_order.new.reading (with_waiting c.read_in_order.new.reading c.read_apart.new.waiting.items) refl
    (ap (λ w. c.read_in_order.new.reading.db ++ all_waiting w) (c.read_apart.ensures.none none) ∙ append-nil c.read_in_order.new.reading.db) refl after)

pub returns-in-Ok-clause-room : goal.returns-in-Ok-clause-room
returns-in-Ok-clause-room g c =
    let none : c.read_apart.result ≡ Ok false = c.in_ok-read_apart.was ∙ ap Ok c.if-branch.false in
    let zero = ap length (ap all_waiting (c.read_apart.ensures.none none)) in
    let count = c.sequences.ensures.count in
    let most = c.sequences.ensures.most in
    omega (arith, zero, count, most)

pub returns-in-Err-clause-refused : goal.returns-in-Err-clause-refused
returns-in-Err-clause-refused g c fault is no_read no_memory told known lines weighted at taken =
    let none : c.read_apart.result ≡ Ok false = c.in_ok-read_apart.was ∙ ap Ok c.if-branch.false in
    let before = c.read_apart.ensures.untaken none known lines weighted taken in
    let same : c.refusal.result ≡ fault = cc is in
    let next = c.in_ok-read_apart.ensures.at told lines at in
    let first = c.refusal.ensures.first (λ e. no_read (sym same ∙ e)) (λ e. no_memory (sym same ∙ e)) told _ next in
    subst (λ (f : SequenceFault). IfSome told (λ whole. IsSequencesRefusal weighted known whole (fault_of_sequences f))) same
    (line-refused told (g.F.Files.left c.args.files.now) weighted known lines c.args.block.now c.read_apart.new.reading c.in-Err.fault c.refusal.result at before
    (λ line. subst (λ l. FirstAmong (IsSequenceLineRefusal weighted known) lines (lines_behind l) (fault_of_sequences c.in-Err.fault)) c.text.ensures.text
    (c.in-Err.ensures.refused c.in-Err.fault refl line known lines weighted before)) (λ e. no_memory (sym same ∙ e)) first)
