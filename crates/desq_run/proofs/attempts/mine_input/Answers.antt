use Rattle.std.proofs.Common.{rules, ◌≡◌, ◌∙◌, sym, subst, Err}
use Rattle.mine_model.specs.declared.fault.Fault.TheVariants.{Read, Write}
use Rattle.command_line.specs.Commands.{command_said}
use Rattle.desq_run.specs.Ends.{MayEndWith, no_memory}
use Rattle.desq_run.proofs.FailLemmas.{memory≢read, memory≢write}
use Rattle.desq_run.proofs.RowLemmas.{job-mined}
use Rattle.desq_run.proofs.attempts.mine_input.Goals as goal

pub returns-clause-mined : goal.returns-clause-mined
returns-clause-mined g c = λ words is.
    job-mined words (g.F.Files.holds c.args.files.now) (command_said c.args.command.now) is c.in_ok-names.field-0.names c.in_ok-names.field-0.job
    c.in_ok-names.ensures.job c.requires.ranges c.requires.threshold c.in_ok-rows.field-0.rows.items c.in_ok-rows.field-0.work
    c.in_ok-rows.ensures.rows c.in_ok-rows.ensures.work

pub returns-in_err-names-clause-ends : goal.returns-in_err-names-clause-ends
returns-in_err-names-clause-ends g c = λ words is.
    let same : c.from_residual.result ≡ Err c.in_err-names.field-0.0 = search rules in
    rw same (c.in_err-names.ensures.ends words is)

pub returns-in_err-rows-clause-ends : goal.returns-in_err-rows-clause-ends
returns-in_err-rows-clause-ends g c = λ words is.
    let same : c.from_residual-in_err-rows.result ≡ Err c.in_err-rows.field-0.0 = search (rules, c.from_residual-in_err-rows.ensures) in
    rw same (subst (λ fault. MayEndWith words (g.F.Files.holds c.args.files.now) (Err fault)) (sym c.in_err-rows.ensures.fails) no_memory)

pub returns-in_err-rows-clause-read_fault : goal.returns-in_err-rows-clause-read_fault
returns-in_err-rows-clause-read_fault g c = λ file is.
    let same : c.from_residual-in_err-rows.result ≡ Err c.in_err-rows.field-0.0 = search (rules, c.from_residual-in_err-rows.ensures) in
    let e : c.in_err-rows.field-0.0 ≡ Read file = cc in
    absurd (memory≢read file (sym c.in_err-rows.ensures.fails ∙ e))

pub returns-in_err-rows-clause-no_write : goal.returns-in_err-rows-clause-no_write
returns-in_err-rows-clause-no_write g c = λ is.
    let same : c.from_residual-in_err-rows.result ≡ Err c.in_err-rows.field-0.0 = search (rules, c.from_residual-in_err-rows.ensures) in
    let e : c.in_err-rows.field-0.0 ≡ Write = cc in
    memory≢write (sym c.in_err-rows.ensures.fails ∙ e)
