use Rattle.std.proofs.Common.{rules, ◌≡◌, ◌∙◌, inl, inr, sym, ap, subst, map, Err}
use Rattle.mine_model.specs.declared.fault.Fault.TheVariants.{Write}
use Rattle.mine_model.specs.Names.{named_row}
use Rattle.command_line.specs.Words.{mine, check}
use Rattle.command_line.specs.Commands.{command_said}
use Rattle.desq_run.specs.Ends.{MayEndWith, write_fault, no_memory}
use Rattle.desq_run.specs.Said.{output_of}
use Rattle.desq_run.proofs.TextLemmas.{mined-done, mined-text}
use Rattle.desq_run.proofs.attempts.give_answer.Goals as goal

pub returns-clause-done : goal.returns-clause-done
returns-clause-done g c = λ words is.
    mined-done words (g.F.Files.holds c.args.files.now) (command_said c.args.command.now) c.in_ok-mined.mined.names c.in_ok-mined.mined.rows.items c.in_ok-mined.mined.work
    (c.in_ok-mined.ensures.mined words is) (λ file own. (let other : mine ≡ check file = sym c.requires.task ∙ own in cc))

pub returns-clause-written : goal.returns-clause-written
returns-clause-written g c = λ words input said is.
    let command = command_said c.args.command.now in (
      output_of command.source (map (named_row c.in_ok-mined.mined.names) c.in_ok-mined.mined.rows.items),
      mined-text words (g.F.Files.holds c.args.files.now) command c.in_ok-mined.mined.names c.in_ok-mined.mined.rows.items c.in_ok-mined.mined.work
          (c.in_ok-mined.ensures.mined words said) c.requires.task input is,
      c.in_ok-write_answer.ensures.written,
    )

pub returns-in_err-mined-clause-ends : goal.returns-in_err-mined-clause-ends
returns-in_err-mined-clause-ends g c = λ words is.
    let same : c.from_residual.result ≡ Err c.in_err-mined.field-0.0 = search rules in
    rw same (c.in_err-mined.ensures.ends words is)

pub returns-in_err-write_answer-clause-ends : goal.returns-in_err-write_answer-clause-ends
returns-in_err-write_answer-clause-ends g c = λ words is.
    let same : c.from_residual-in_err-write_answer.result ≡ Err c.in_err-write_answer.field-0.0 = search rules in
    let holds = g.F.Files.holds c.args.files.now in
    let done = mined-done words holds (command_said c.args.command.now) c.in_ok-mined.mined.names c.in_ok-mined.mined.rows.items c.in_ok-mined.mined.work
    (c.in_ok-mined.ensures.mined words is) (λ file own. (let other : mine ≡ check file = sym c.requires.task ∙ own in cc)) in
    rw same
    (elim c.in_err-write_answer.ensures.fails [
      | inl written ↦ subst (λ fault. MayEndWith words holds (Err fault)) (sym written) (write_fault (command_said c.args.command.now) done.source done.hierarchy done.mined done.accepted)
      | inr memory ↦ subst (λ fault. MayEndWith words holds (Err fault)) (sym memory) no_memory
    ])

pub returns-in_err-write_answer-clause-cut : goal.returns-in_err-write_answer-clause-cut
returns-in_err-write_answer-clause-cut g c = λ failed words input said is.
    let same : c.from_residual-in_err-write_answer.result ≡ Err c.in_err-write_answer.field-0.0 = search rules in
    let e : c.in_err-write_answer.field-0.0 ≡ Write = cc in
    let command = command_said c.args.command.now in (
      output_of command.source (map (named_row c.in_ok-mined.mined.names) c.in_ok-mined.mined.rows.items),
      mined-text words (g.F.Files.holds c.args.files.now) command c.in_ok-mined.mined.names c.in_ok-mined.mined.rows.items c.in_ok-mined.mined.work
          (c.in_ok-mined.ensures.mined words said) c.requires.task input is,
      c.in_err-write_answer.ensures.cut (ap Err e),
    )

pub returns-in_err-write_answer-clause-unchanged : goal.returns-in_err-write_answer-clause-unchanged
returns-in_err-write_answer-clause-unchanged g c =
    let same : c.from_residual-in_err-write_answer.result ≡ Err c.in_err-write_answer.field-0.0 = search rules in
    rw same
    (λ not_write. c.in_err-write_answer.ensures.unchanged (λ e.
    let written : c.in_err-write_answer.field-0.0 ≡ Write = cc in
    not_write (ap Err written)))
