use Rattle.std.proofs.Common.{◌≡◌, ◌∙◌, sym, ap, Err}
use Rattle.mine_model.specs.declared.fault.Fault.TheVariants.{Read, Write}
use Rattle.command_line.specs.Commands.{command_said}
use Rattle.desq_run.specs.Ends.{no_memory}
use Rattle.desq_run.proofs.CheckLemmas.{judged, judging-ends, read-cause, no-write-cause}
use Rattle.desq_run.proofs.FailLemmas.{Rose-later}
use Rattle.desq_run.proofs.TextLemmas.{file-mined, file-ranges, suits-check}
use Rattle.desq_run.proofs.checking.judge.Goals as goal

pub read_job-requires-clause-mined : goal.read_job-requires-clause-mined
read_job-requires-clause-mined g c = λ _ _.
    file-mined (command_said c.args.command.now) (suits-check (command_said c.args.command.now) c.args.proof.now c.requires.task c.requires.suits).0

pub read_job-requires-clause-ranges : goal.read_job-requires-clause-ranges
read_job-requires-clause-ranges g c = λ _ _.
    file-ranges (command_said c.args.command.now) (suits-check (command_said c.args.command.now) c.args.proof.now c.requires.task c.requires.suits).0

pub returns-then-not-are_file_names-clause-ends : goal.returns-then-not-are_file_names-clause-ends
returns-then-not-are_file_names-clause-ends g c = λ words is. no_memory

pub returns-in-Ok-clause-judged : goal.returns-in-Ok-clause-judged
returns-in-Ok-clause-judged g c = λ words is.
    let command = command_said c.args.command.now in
    let good = rw c.read_job.ensures.same_files at c.in-Ok.ensures.good in
    let accepted = rw c.read_job.ensures.same_files at c.in-Ok.ensures.accepted in
    judged words (g.F.Files.holds c.args.files.now) command is c.in_ok-names.field-0.names c.in_ok-names.field-0.job c.in_ok-names.ensures.job
    (suits-check command c.args.proof.now c.requires.task c.requires.suits).0 c.args.proof.now c.requires.task c.in-Ok.rows good accepted

pub returns-clause-ends : goal.returns-clause-ends
returns-clause-ends g c = λ words is.
    let command = command_said c.args.command.now in
    rw c.fault_in.ensures
    (judging-ends words (g.F.Files.holds c.args.files.now) command is c.in_ok-names.field-0.names c.in_ok-names.field-0.job c.in_ok-names.ensures.job
    (suits-check command c.args.proof.now c.requires.task c.requires.suits).0 c.args.proof.now c.requires.task c.in-Err.fault
    (λ not_read not_memory. rw c.read_job.ensures.same_files at c.read_proof.ensures.refused c.in-Err.fault c.in-Err.is not_read not_memory))

pub returns-clause-read_fault : goal.returns-clause-read_fault
returns-clause-read_fault g c = λ file is.
    let e : c.fault_in.result ≡ Read file = cc in
    let cause = read-cause c.in-Err.fault file (sym c.fault_in.ensures ∙ e) in
    Rose-later _ _ _ c.read_job.ensures.never_falls (c.read_proof.ensures.failed (c.in-Err.is ∙ ap Err cause))

pub returns-clause-no_write : goal.returns-clause-no_write
returns-clause-no_write g c = λ is.
    let e : c.fault_in.result ≡ Write = cc in
    no-write-cause c.in-Err.fault (sym c.fault_in.ensures ∙ e)
