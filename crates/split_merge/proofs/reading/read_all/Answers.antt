use Rattle.std.proofs.Common.{◌≡◌, ap, sym, ◌∙◌, subst, Err, IfSome}
use Rattle.mine_model.specs.Text.{lines_of}
use Rattle.split_merge.specs.declared.faults.MergeFault.{MergeFault}
use Rattle.split_merge.specs.declared.faults.MergeFault.TheVariants.{BadByte, NameTooLong}
use Rattle.split_merge.specs.Merging.{IsMergedFileRefusal}
use Rattle.split_merge.proofs.TakingLemmas.{whole_taken, whole_accepted, stopped_bad, stopped_long, refused_line, keeps-all, keeps-refused}
use Rattle.text_ports.proofs.Told.{of_told}
use Rattle.split_merge.proofs.reading.read_all.Goals as goal

pub returns-in-Ok-clause-accepted : goal.returns-in-Ok-clause-accepted
returns-in-Ok-clause-accepted g c lines are =
    let (bytes, read, (took, count)) = c.in-Ok.ensures.taken in (
      bytes,
      read,
      (
        whole_taken c.args.merging.now c.read_lines.new.visitor c.requires.room c.requires.distinct c.requires.first lines are (lines_of bytes) took,
        whole_accepted c.args.merging.now c.read_lines.new.visitor c.requires.room c.requires.distinct c.requires.first lines are bytes read.few took,
      ),
    )

pub returns-in-Ok-clause-kept_names : goal.returns-in-Ok-clause-kept_names
returns-in-Ok-clause-kept_names g c =
    let (bytes, read, (took, count)) = c.in-Ok.ensures.taken in
    (keeps-all (lines_of bytes) c.args.merging.now c.read_lines.new.visitor took).0

pub returns-in-Ok-clause-kept_rows : goal.returns-in-Ok-clause-kept_rows
returns-in-Ok-clause-kept_rows g c =
    let (bytes, read, (took, count)) = c.in-Ok.ensures.taken in
    (keeps-all (lines_of bytes) c.args.merging.now c.read_lines.new.visitor took).1

pub returns-in-Err-BadByte-clause-refused : goal.returns-in-Err-BadByte-clause-refused
returns-in-Err-BadByte-clause-refused g c lines why are is no_read no_memory =
    let same : BadByte c.in-Err-BadByte.line c.in-Err-BadByte.column ≡ why = cc in
    let (bytes, read, stop) = c.in-Err-BadByte.ensures.bad c.in-Err-BadByte.line c.in-Err-BadByte.column (ap Err c.in-Err-BadByte.field-0-is) in
    subst (λ (w : MergeFault). IfSome (g.F.Files.holds c.args.files.now c.args.name.now) (λ b. IsMergedFileRefusal c.args.merging.now.least lines b w)) same
    (of_told _ _ bytes read (stopped_bad c.args.merging.now c.read_lines.new.visitor c.requires.room c.requires.distinct c.requires.first lines are bytes c.in-Err-BadByte.line c.in-Err-BadByte.column read.few stop))

pub returns-in-Err-BadByte-clause-kept_names : goal.returns-in-Err-BadByte-clause-kept_names
returns-in-Err-BadByte-clause-kept_names g c =
    let (bytes, read, stop) = c.in-Err-BadByte.ensures.bad c.in-Err-BadByte.line c.in-Err-BadByte.column (ap Err c.in-Err-BadByte.field-0-is) in
    (keeps-all stop.earlier c.args.merging.now c.read_lines.new.visitor stop.taken).0

pub returns-in-Err-BadByte-clause-kept_rows : goal.returns-in-Err-BadByte-clause-kept_rows
returns-in-Err-BadByte-clause-kept_rows g c =
    let (bytes, read, stop) = c.in-Err-BadByte.ensures.bad c.in-Err-BadByte.line c.in-Err-BadByte.column (ap Err c.in-Err-BadByte.field-0-is) in
    (keeps-all stop.earlier c.args.merging.now c.read_lines.new.visitor stop.taken).1

pub returns-in-Err-NameTooLong-clause-refused : goal.returns-in-Err-NameTooLong-clause-refused
returns-in-Err-NameTooLong-clause-refused g c lines why are is no_read no_memory =
    let same : NameTooLong c.in-Err-NameTooLong.line c.in-Err-NameTooLong.column ≡ why = cc in
    let (bytes, read, stop) = c.in-Err-NameTooLong.ensures.long c.in-Err-NameTooLong.line c.in-Err-NameTooLong.column (ap Err c.in-Err-NameTooLong.field-0-is) in
    subst (λ (w : MergeFault). IfSome (g.F.Files.holds c.args.files.now c.args.name.now) (λ b. IsMergedFileRefusal c.args.merging.now.least lines b w)) same
    (of_told _ _ bytes read (stopped_long c.args.merging.now c.read_lines.new.visitor c.requires.room c.requires.distinct c.requires.first lines are bytes c.in-Err-NameTooLong.line c.in-Err-NameTooLong.column read.few stop))

pub returns-in-Err-NameTooLong-clause-kept_names : goal.returns-in-Err-NameTooLong-clause-kept_names
returns-in-Err-NameTooLong-clause-kept_names g c =
    let (bytes, read, stop) = c.in-Err-NameTooLong.ensures.long c.in-Err-NameTooLong.line c.in-Err-NameTooLong.column (ap Err c.in-Err-NameTooLong.field-0-is) in
    (keeps-all stop.earlier c.args.merging.now c.read_lines.new.visitor stop.taken).0

pub returns-in-Err-NameTooLong-clause-kept_rows : goal.returns-in-Err-NameTooLong-clause-kept_rows
returns-in-Err-NameTooLong-clause-kept_rows g c =
    let (bytes, read, stop) = c.in-Err-NameTooLong.ensures.long c.in-Err-NameTooLong.line c.in-Err-NameTooLong.column (ap Err c.in-Err-NameTooLong.field-0-is) in
    (keeps-all stop.earlier c.args.merging.now c.read_lines.new.visitor stop.taken).1

pub returns-in-Err-Visitor-clause-refused : goal.returns-in-Err-Visitor-clause-refused
returns-in-Err-Visitor-clause-refused g c lines why are is no_read no_memory =
    let same : c.in-Err-Visitor.fault ≡ why = cc in
    let (bytes, read, refusal) = c.in-Err-Visitor.ensures.refused c.in-Err-Visitor.fault (ap Err c.in-Err-Visitor.field-0-is) in
    subst (λ (w : MergeFault). IfSome (g.F.Files.holds c.args.files.now c.args.name.now) (λ b. IsMergedFileRefusal c.args.merging.now.least lines b w)) same
    (of_told _ _ bytes read (refused_line c.args.merging.now c.read_lines.new.visitor c.requires.room c.requires.distinct c.requires.first lines are bytes c.in-Err-Visitor.fault read.few refusal (λ none. no_memory (sym same ∙ none))))

pub returns-in-Err-Visitor-clause-kept_names : goal.returns-in-Err-Visitor-clause-kept_names
returns-in-Err-Visitor-clause-kept_names g c =
    let (bytes, read, refusal) = c.in-Err-Visitor.ensures.refused c.in-Err-Visitor.fault (ap Err c.in-Err-Visitor.field-0-is) in
    (keeps-refused (lines_of bytes) c.args.merging.now c.read_lines.new.visitor c.in-Err-Visitor.fault refusal).0

pub returns-in-Err-NoMemory-clause-kept_names : goal.returns-in-Err-NoMemory-clause-kept_names
returns-in-Err-NoMemory-clause-kept_names g c =
    let (lines, took) = c.in-Err-NoMemory.ensures.no_memory (ap Err c.in-Err-NoMemory.field-0-is) in
    (keeps-all lines c.args.merging.now c.read_lines.new.visitor took).0

pub returns-in-Err-Visitor-clause-kept_rows : goal.returns-in-Err-Visitor-clause-kept_rows
returns-in-Err-Visitor-clause-kept_rows g c =
    let (bytes, read, refusal) = c.in-Err-Visitor.ensures.refused c.in-Err-Visitor.fault (ap Err c.in-Err-Visitor.field-0-is) in
    (keeps-refused (lines_of bytes) c.args.merging.now c.read_lines.new.visitor c.in-Err-Visitor.fault refusal).1

pub returns-in-Err-NoMemory-clause-kept_rows : goal.returns-in-Err-NoMemory-clause-kept_rows
returns-in-Err-NoMemory-clause-kept_rows g c =
    let (lines, took) = c.in-Err-NoMemory.ensures.no_memory (ap Err c.in-Err-NoMemory.field-0-is) in
    (keeps-all lines c.args.merging.now c.read_lines.new.visitor took).1
