use Rattle.std.proofs.Common.{rules, ◌≡◌, refl, sym, subst, Err, IfSome, IsSome}
use Rattle.text_ports.specs.Faults.{Rose}
use Rattle.mine_model.specs.declared.fault.Fault.TheVariants.{Read, Write}
use Rattle.mine_model.specs.declared.fault.Which.TheVariants.{Hierarchy, Sequences}
use Rattle.mine_model.specs.Refusal.{IsSequencesRefusal}
use Rattle.command_line.specs.Words.{file_of}
use Rattle.command_line.specs.Commands.{source_said, command_said}
use Rattle.desq_run.specs.Ends.{bytes_named}
use Rattle.desq_run.specs.Inputs.{IsDatabaseOf, FailsBy, FailsInTurn}
use Rattle.desq_run.proofs.FailLemmas.{hierarchy-ends, hierarchy-fails, hierarchy-said, sequences-said, closes-told, turn-ends, turn-faulty, turn-no-write, Rose-later}
use Rattle.desq_run.proofs.inputs.read_both.Goals as goal

pub returns-in_err-rows-clause-ends : goal.returns-in_err-rows-clause-ends
returns-in_err-rows-clause-ends g c = λ words has.
    let same : c.from_residual.result ≡ Err c.in_err-rows.field-0.0 = search rules in
    let Faulty : Type 0 = Rose (g.F.Files.faults c.args.files.now) (g.F.Files.faults c.read_rows.new.files) in
    let hierarchy = (command_said c.args.command.now).hierarchy in
    let fails = hierarchy-fails (bytes_named (g.F.Files.holds c.args.files.now) hierarchy) Hierarchy (IsSome hierarchy) Faulty c.in_err-rows.field-0.0
    (source_said c.args.command.now.source) c.args.file.now c.requires.file c.in_err-rows.ensures.fails in
    rw same
    (hierarchy-ends words (g.F.Files.holds c.args.files.now) (command_said c.args.command.now) has Faulty c.in_err-rows.field-0.0 fails)

pub returns-in_err-both-clause-ends : goal.returns-in_err-both-clause-ends
returns-in_err-both-clause-ends g c = λ words has.
    let same : c.from_residual-in_err-both.result ≡ Err c.in_err-both.field-0.0 = search rules in
    let Faulty : Type 0 = Rose (g.F.Files.faults c.read_rows.new.files) (g.F.Files.faults c.closed_and_read.new.files) in
    let holds = g.F.Files.holds c.args.files.now in
    let known = c.read_rows.new.names in
    let fails : FailsInTurn c.in_ok-rows.rows (FailsBy (holds c.args.file.now) (IsSequencesRefusal c.args.command.now.weighted known) Sequences (Unit {0}) Faulty) c.in_err-both.field-0.0 =
    rw c.read_rows.ensures.same_files at c.in_err-both.ensures.fails in
    rw same
    (turn-ends words holds (command_said c.args.command.now) has Faulty known c.in_ok-rows.rows c.in_ok-rows.ensures.rows c.args.file.now c.requires.file c.in_err-both.field-0.0 fails)

pub returns-in_err-both-clause-read_fault : goal.returns-in_err-both-clause-read_fault
returns-in_err-both-clause-read_fault g c = λ file is.
    let same : c.from_residual-in_err-both.result ≡ Err c.in_err-both.field-0.0 = search rules in
    let e : c.in_err-both.field-0.0 ≡ Read file = cc in
    Rose-later (g.F.Files.faults c.args.files.now) (g.F.Files.faults c.read_rows.new.files) (g.F.Files.faults c.closed_and_read.new.files)
    c.read_rows.ensures.never_falls
    (turn-faulty c.in_ok-rows.rows _ (IsSequencesRefusal c.args.command.now.weighted c.read_rows.new.names) Sequences (Unit {0}) _
    c.in_err-both.field-0.0 c.in_err-both.ensures.fails file e)

pub returns-in_err-both-clause-no_write : goal.returns-in_err-both-clause-no_write
returns-in_err-both-clause-no_write g c = λ is.
    let same : c.from_residual-in_err-both.result ≡ Err c.in_err-both.field-0.0 = search rules in
    let e : c.in_err-both.field-0.0 ≡ Write = cc in
    turn-no-write c.in_ok-rows.rows _ (IsSequencesRefusal c.args.command.now.weighted c.read_rows.new.names) Sequences (Unit {0}) _
    c.in_err-both.field-0.0 c.in_err-both.ensures.fails e

pub returns-clause-inputs : goal.returns-clause-inputs
returns-clause-inputs g c =
    let holds = g.F.Files.holds c.args.files.now in
    let source = source_said c.args.command.now.source in
    let hierarchy = bytes_named holds (command_said c.args.command.now).hierarchy in
    let weighted = c.args.command.now.weighted in
    let known = c.read_rows.new.names in
    let names = c.closed_and_read.new.names in
    let h = c.in_ok-both.both.0 in
    let db = c.in_ok-both.both.1 in
    let own : IfSome (holds c.args.file.now) (λ bytes. IsDatabaseOf weighted bytes known names db) =
    rw c.read_rows.ensures.same_files at c.in_ok-both.ensures.database in
    let told : IfSome (bytes_named holds (file_of source)) (λ bytes. IsDatabaseOf weighted bytes known names db) =
    subst (λ name. IfSome (bytes_named holds name) (λ bytes. IsDatabaseOf weighted bytes known names db)) (sym c.requires.file) own in
    record {
      known = known;
      added = c.closed_and_read.ensures.kept.0;
      behind = c.closed_and_read.ensures.kept.1;
      before = h;
      within = c.in_ok-both.ensures.within;
      links = refl;
      hierarchy = hierarchy-said hierarchy known h source c.args.file.now c.requires.file
          (closes-told hierarchy known c.in_ok-rows.rows c.in_ok-rows.ensures.rows h c.in_ok-both.ensures.closed);
      sequences = sequences-said (bytes_named holds (file_of source)) weighted known names db source c.args.file.now c.requires.file told;
    }
