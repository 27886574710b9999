use Rattle.std.proofs.Common.{rules, ◌≡◌, ◌∙◌, inl, inr, sym, ap, subst, Err}
use Rattle.std.proofs.lemmas.Result.{err_from_is_err_and}
use Rattle.mine_model.specs.declared.fault.Fault.TheVariants.{Read, Write}
use Rattle.mine_model.specs.PartitionWork.{IsNamedBefore}
use Rattle.command_line.specs.Words.{prove, check}
use Rattle.command_line.specs.Commands.{command_said}
use Rattle.desq_run.specs.Ends.{MayEndWith, write_fault, no_memory}
use Rattle.desq_run.specs.Inputs.{IsMined}
use Rattle.desq_run.proofs.FailLemmas.{memory≢read, memory≢write}
use Rattle.desq_run.proofs.RowLemmas.{job-mined}
use Rattle.desq_run.proofs.TextLemmas.{mined-done, proof-text, part-text, file-mined, file-ranges, found-frequent, suits-prove}
use Rattle.desq_run.proofs.proving.prove.Goals as goal

pub read_job-requires-clause-mined : goal.read_job-requires-clause-mined
read_job-requires-clause-mined g c = λ _ _.
    file-mined (command_said c.args.command.now) (suits-prove (command_said c.args.command.now) c.requires.task c.requires.suits)

pub read_job-requires-clause-ranges : goal.read_job-requires-clause-ranges
read_job-requires-clause-ranges g c = λ _ _.
    file-ranges (command_said c.args.command.now) (suits-prove (command_said c.args.command.now) c.requires.task c.requires.suits)

pub write_proof-requires-clause-frequent : goal.write_proof-requires-clause-frequent
write_proof-requires-clause-frequent g c =
    rw c.as_slice.ensures.value
    (found-frequent (IsNamedBefore c.in_ok-names.field-0.names) c.args.command.now.share c.in_ok-names.field-0.job c.in_ok-rows.field-0.rows.items c.in_ok-rows.ensures.rows.found)

pub returns-in_err-names-clause-ends : goal.returns-in_err-names-clause-ends
returns-in_err-names-clause-ends g c = λ words is.
    let same : c.from_residual.result ≡ Err c.in_err-names.field-0.0 = search rules in
    rw same (c.in_err-names.ensures.ends words is)

pub returns-in_err-rows-clause-ends : goal.returns-in_err-rows-clause-ends
returns-in_err-rows-clause-ends g c = λ words is.
    let same : c.from_residual-in_err-rows.result ≡ Err c.in_err-rows.field-0.0 = search (rules, c.from_residual-in_err-rows.ensures) in
    rw same (subst (λ fault. MayEndWith words (g.F.Files.holds c.args.files.now) (Err fault)) (sym c.in_err-rows.ensures.fails) no_memory)

pub returns-in_err-rows-clause-read_fault : goal.returns-in_err-rows-clause-read_fault
returns-in_err-rows-clause-read_fault g c = λ file is.
    let same : c.from_residual-in_err-rows.result ≡ Err c.in_err-rows.field-0.0 = search (rules, c.from_residual-in_err-rows.ensures) in
    let e : c.in_err-rows.field-0.0 ≡ Read file = cc in
    absurd (memory≢read file (sym c.in_err-rows.ensures.fails ∙ e))

pub returns-in_err-rows-clause-write_fault : goal.returns-in_err-rows-clause-write_fault
returns-in_err-rows-clause-write_fault g c = λ is.
    let same : c.from_residual-in_err-rows.result ≡ Err c.in_err-rows.field-0.0 = search (rules, c.from_residual-in_err-rows.ensures) in
    let e : c.in_err-rows.field-0.0 ≡ Write = cc in
    absurd (memory≢write (sym c.in_err-rows.ensures.fails ∙ e))

pub returns-in_err-rows-clause-cut : goal.returns-in_err-rows-clause-cut
returns-in_err-rows-clause-cut g c = λ is words input said is_input.
    let same : c.from_residual-in_err-rows.result ≡ Err c.in_err-rows.field-0.0 = search (rules, c.from_residual-in_err-rows.ensures) in
    let e : c.in_err-rows.field-0.0 ≡ Write = cc in
    absurd (memory≢write (sym c.in_err-rows.ensures.fails ∙ e))

pub returns-clause-done : goal.returns-clause-done
returns-clause-done g c = λ words is.
    let command = command_said c.args.command.now in
    let holds = g.F.Files.holds c.args.files.now in
    let names = c.in_ok-names.field-0.names in
    let job = c.in_ok-names.field-0.job in
    let rows = c.in_ok-rows.field-0.rows.items in
    let work = c.in_ok-rows.field-0.work in
    let ranges = file-ranges command (suits-prove command c.requires.task c.requires.suits) in
    let mined : IsMined words holds command names rows work =
    job-mined words holds command is names job c.in_ok-names.ensures.job ranges c.requires.threshold rows work c.in_ok-rows.ensures.rows c.in_ok-rows.ensures.work in
    mined-done words holds command names rows work mined (λ file own. (let other : prove ≡ check file = sym c.requires.task ∙ own in cc))

pub returns-clause-written : goal.returns-clause-written
returns-clause-written g c = λ words input is is_input.
    let command = command_said c.args.command.now in
    let holds = g.F.Files.holds c.args.files.now in
    let names = c.in_ok-names.field-0.names in
    let job = c.in_ok-names.field-0.job in
    let rows = c.in_ok-rows.field-0.rows.items in
    let work = c.in_ok-rows.field-0.work in
    let ranges = file-ranges command (suits-prove command c.requires.task c.requires.suits) in
    let mined : IsMined words holds command names rows work =
    job-mined words holds command is names job c.in_ok-names.ensures.job ranges c.requires.threshold rows work c.in_ok-rows.ensures.rows c.in_ok-rows.ensures.work in
    let gains = rw c.as_slice.ensures.value at c.in_ok-write_proof.ensures.written in
    proof-text words holds command names rows work mined is job c.in_ok-names.ensures.job (suits-prove command c.requires.task c.requires.suits) c.requires.task
    c.in_ok-rows.ensures.named input is_input _ _ gains

pub returns-in_err-write_proof-clause-ends : goal.returns-in_err-write_proof-clause-ends
returns-in_err-write_proof-clause-ends g c = λ words is.
    let exit = err_from_is_err_and c.from_residual-in_err-write_proof.result c.from_residual-in_err-write_proof.ensures.1 in
    let same : c.from_residual-in_err-write_proof.result ≡ Err c.in_err-write_proof.field-0.0 = exit.1 ∙ ap Err exit.2 in
    let command = command_said c.args.command.now in
    let holds = g.F.Files.holds c.args.files.now in
    let names = c.in_ok-names.field-0.names in
    let job = c.in_ok-names.field-0.job in
    let rows = c.in_ok-rows.field-0.rows.items in
    let work = c.in_ok-rows.field-0.work in
    let ranges = file-ranges command (suits-prove command c.requires.task c.requires.suits) in
    let mined : IsMined words holds command names rows work =
    job-mined words holds command is names job c.in_ok-names.ensures.job ranges c.requires.threshold rows work c.in_ok-rows.ensures.rows c.in_ok-rows.ensures.work in
    let ended = mined-done words holds command names rows work mined (λ file own. (let other : prove ≡ check file = sym c.requires.task ∙ own in cc)) in
    rw same
    (elim c.in_err-write_proof.ensures.fails [
      | inl written ↦ subst (λ fault. MayEndWith words holds (Err fault)) (sym written) (write_fault command ended.source ended.hierarchy ended.mined ended.accepted)
      | inr memory ↦ subst (λ fault. MayEndWith words holds (Err fault)) (sym memory) no_memory
    ])

pub returns-in_err-write_proof-clause-cut : goal.returns-in_err-write_proof-clause-cut
returns-in_err-write_proof-clause-cut g c = λ failed words input is is_input.
    let same : c.from_residual-in_err-write_proof.result ≡ Err c.in_err-write_proof.field-0.0 = search (rules, c.from_residual-in_err-write_proof.ensures) in
    let e : c.in_err-write_proof.field-0.0 ≡ Write = cc in
    let command = command_said c.args.command.now in
    let holds = g.F.Files.holds c.args.files.now in
    let names = c.in_ok-names.field-0.names in
    let job = c.in_ok-names.field-0.job in
    let rows = c.in_ok-rows.field-0.rows.items in
    let work = c.in_ok-rows.field-0.work in
    let ranges = file-ranges command (suits-prove command c.requires.task c.requires.suits) in
    let mined : IsMined words holds command names rows work =
    job-mined words holds command is names job c.in_ok-names.ensures.job ranges c.requires.threshold rows work c.in_ok-rows.ensures.rows c.in_ok-rows.ensures.work in
    let gains = rw c.as_slice.ensures.value at c.in_err-write_proof.ensures.cut (ap Err e) in
    part-text words holds command names rows work mined is job c.in_ok-names.ensures.job (suits-prove command c.requires.task c.requires.suits) c.requires.task
    c.in_ok-rows.ensures.named input is_input _ _ gains

pub returns-in_err-write_proof-clause-unchanged : goal.returns-in_err-write_proof-clause-unchanged
returns-in_err-write_proof-clause-unchanged g c =
    let same : c.from_residual-in_err-write_proof.result ≡ Err c.in_err-write_proof.field-0.0 = search (rules, c.from_residual-in_err-write_proof.ensures) in
    rw same
    (λ not_write. c.in_err-write_proof.ensures.unchanged (λ e.
    let written : c.in_err-write_proof.field-0.0 ≡ Write = cc in
    not_write (ap Err written)))
