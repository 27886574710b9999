use Rattle.std.proofs.Common.{◌≡◌, ap, sym, ◌∙◌, subst, Err}
use Rattle.sequence_reader.specs.declared.sequence_fault.SequenceFault.{SequenceFault}
use Rattle.sequence_reader.specs.declared.sequence_fault.SequenceFault.TheVariants.{BadByte, NameTooLong}
use Rattle.sequence_reader.specs.Faults.{fault_of_sequences}
use Rattle.mine_model.specs.First.{FirstAmong}
use Rattle.mine_model.specs.Refusal.{IsSequenceLineRefusal}
use Rattle.text_ports.specs.Scanning.{lines_behind}
use Rattle.sequence_reader.proofs.TakingLemmas.{more_taken, stopped_bad, stopped_long, refused_line, kept_all, kept_refused}
use Rattle.sequence_reader.proofs.reading.read_in_order.Goals as goal

pub returns-in-Ok-clause-taken : goal.returns-in-Ok-clause-taken
returns-in-Ok-clause-taken c known lines weighted taken = more_taken known weighted lines c.args.reading.now c.visit_lines.new.visitor taken (lines_behind c.args.bytes.now) c.in-Ok.ensures.taken.0

pub returns-in-Ok-clause-kept : goal.returns-in-Ok-clause-kept
returns-in-Ok-clause-kept c = kept_all c.args.reading.now c.visit_lines.new.visitor (lines_behind c.args.bytes.now) c.in-Ok.ensures.taken.0

pub returns-in-Err-BadByte-clause-refused : goal.returns-in-Err-BadByte-clause-refused
returns-in-Err-BadByte-clause-refused c why is no_memory known lines weighted taken =
    let same : BadByte c.next_number.result c.in-Err-BadByte.column ≡ why = cc in
    let stop = c.in-Err-BadByte.ensures.bad _ c.in-Err-BadByte.column (ap Err c.in-Err-BadByte.field-0-is) in
    subst (λ (w : SequenceFault). FirstAmong (IsSequenceLineRefusal weighted known) lines (lines_behind c.args.bytes.now) (fault_of_sequences w))
    (ap (λ n. BadByte n c.in-Err-BadByte.column) (sym c.next_number.ensures) ∙ same)
    (stopped_bad known weighted lines c.args.reading.now c.visit_lines.new.visitor taken (lines_behind c.args.bytes.now) _ c.in-Err-BadByte.column stop)

pub returns-in-Err-BadByte-clause-kept : goal.returns-in-Err-BadByte-clause-kept
returns-in-Err-BadByte-clause-kept c =
    let stop = c.in-Err-BadByte.ensures.bad _ c.in-Err-BadByte.column (ap Err c.in-Err-BadByte.field-0-is) in
    kept_all c.args.reading.now c.visit_lines.new.visitor stop.earlier stop.taken

pub returns-in-Err-NameTooLong-clause-refused : goal.returns-in-Err-NameTooLong-clause-refused
returns-in-Err-NameTooLong-clause-refused c why is no_memory known lines weighted taken =
    let same : NameTooLong c.next_number-in-Err-NameTooLong.result c.in-Err-NameTooLong.column ≡ why = cc in
    let stop = c.in-Err-NameTooLong.ensures.long _ c.in-Err-NameTooLong.column (ap Err c.in-Err-NameTooLong.field-0-is) in
    subst (λ (w : SequenceFault). FirstAmong (IsSequenceLineRefusal weighted known) lines (lines_behind c.args.bytes.now) (fault_of_sequences w))
    (ap (λ n. NameTooLong n c.in-Err-NameTooLong.column) (sym c.next_number-in-Err-NameTooLong.ensures) ∙ same)
    (stopped_long known weighted lines c.args.reading.now c.visit_lines.new.visitor taken (lines_behind c.args.bytes.now) _ c.in-Err-NameTooLong.column stop)

pub returns-in-Err-NameTooLong-clause-kept : goal.returns-in-Err-NameTooLong-clause-kept
returns-in-Err-NameTooLong-clause-kept c =
    let stop = c.in-Err-NameTooLong.ensures.long _ c.in-Err-NameTooLong.column (ap Err c.in-Err-NameTooLong.field-0-is) in
    kept_all c.args.reading.now c.visit_lines.new.visitor stop.earlier stop.taken

pub returns-in-Err-Visitor-clause-refused : goal.returns-in-Err-Visitor-clause-refused
returns-in-Err-Visitor-clause-refused c why is no_memory known lines weighted taken =
    let same : c.in-Err-Visitor.fault ≡ why = cc in
    let refusal = c.in-Err-Visitor.ensures.refused c.in-Err-Visitor.fault (ap Err c.in-Err-Visitor.field-0-is) in
    subst (λ (w : SequenceFault). FirstAmong (IsSequenceLineRefusal weighted known) lines (lines_behind c.args.bytes.now) (fault_of_sequences w)) same
    (refused_line known weighted lines c.args.reading.now c.visit_lines.new.visitor taken (lines_behind c.args.bytes.now) c.in-Err-Visitor.fault refusal (λ none. no_memory (sym same ∙ none)))

pub returns-in-Err-Visitor-clause-kept : goal.returns-in-Err-Visitor-clause-kept
returns-in-Err-Visitor-clause-kept c =
    let refusal = c.in-Err-Visitor.ensures.refused c.in-Err-Visitor.fault (ap Err c.in-Err-Visitor.field-0-is) in
    kept_refused c.args.reading.now c.visit_lines.new.visitor (lines_behind c.args.bytes.now) c.in-Err-Visitor.fault refusal

pub returns-in-Err-NoMemory-clause-kept : goal.returns-in-Err-NoMemory-clause-kept
returns-in-Err-NoMemory-clause-kept c =
    let (lines, took) = c.in-Err-NoMemory.ensures.no_memory (ap Err c.in-Err-NoMemory.field-0-is) in
    kept_all c.args.reading.now c.visit_lines.new.visitor lines took
