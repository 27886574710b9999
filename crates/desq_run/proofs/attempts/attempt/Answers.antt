use Rattle.std.proofs.Common.{rules, ◌≡◌, ap, map, Err, string_bytes}
use Rattle.mine_model.specs.declared.fault.Fault.TheVariants.{Write, NoMemory}
use Rattle.command_line.specs.Commands.{command_said}
use Rattle.desq_run.specs.Ends.{IsWork, done, no_command, no_memory}
use Rattle.desq_run.proofs.EndLemmas.{needs-none}
use Rattle.command_line.proofs.CommandLemmas.{task_suits}
use Rattle.desq_run.proofs.SourceLemmas.{has-ranges, has-share}
use Rattle.desq_run.proofs.RowLemmas.{is-work}
use Rattle.desq_run.proofs.attempts.attempt.Goals as goal

pub returns-in_err-command-clause-ends : goal.returns-in_err-command-clause-ends
returns-in_err-command-clause-ends g c =
    let same : c.from_residual.result ≡ Err NoMemory = search rules in
    rw same no_memory

pub returns-in-None-clause-ends : goal.returns-in-None-clause-ends
returns-in-None-clause-ends g c =
    let usage = rw c.in-None.is at c.in_ok-command.ensures in
    no_command usage

pub returns-clause-ends : goal.returns-clause-ends
returns-clause-ends g c =
    let is = rw c.in-Some.is at c.in_ok-command.ensures in
    let ended = c.in_ok-work.ensures.done (map string_bytes c.args.words.now) is in
    done (command_said c.in-Some.command) c.told.result ended.source c.told.ensures.asked ended.hierarchy ended.mined
    (λ input is_input. (
      ended.accepted input is_input,
      is-work (IsWork input) (command_said c.in-Some.command).stats c.told.result c.in_ok-work.work c.told.ensures.asked c.told.ensures.work
          (λ asked. ended.work asked input is_input),
    ))

pub returns-in_err-work-clause-ends : goal.returns-in_err-work-clause-ends
returns-in_err-work-clause-ends g c =
    let same : c.from_residual-in_err-work.result ≡ Err c.in_err-work.field-0.0 = search rules in
    let is = rw c.in-Some.is at c.in_ok-command.ensures in
    rw same (c.in_err-work.ensures.ends (map string_bytes c.args.words.now) is)

pub returns-clause-written : goal.returns-clause-written
returns-clause-written g c = λ input is_input.
    let is = rw c.in-Some.is at c.in_ok-command.ensures in
    c.in_ok-work.ensures.written (map string_bytes c.args.words.now) input is is_input

pub returns-in_err-work-clause-cut : goal.returns-in_err-work-clause-cut
returns-in_err-work-clause-cut g c = λ failed input is_input.
    let same : c.from_residual-in_err-work.result ≡ Err c.in_err-work.field-0.0 = search rules in
    let e : c.in_err-work.field-0.0 ≡ Write = cc in
    let is = rw c.in-Some.is at c.in_ok-command.ensures in
    c.in_err-work.ensures.cut (ap Err e) (map string_bytes c.args.words.now) input is is_input

pub carry_out-requires-clause-share : goal.carry_out-requires-clause-share
carry_out-requires-clause-share g c = λ _ _.
    let is = rw c.in-Some.is at c.in_ok-command.ensures in
    has-share (map string_bytes c.args.words.now) (command_said c.in-Some.command) is

pub carry_out-requires-clause-ranges : goal.carry_out-requires-clause-ranges
carry_out-requires-clause-ranges g c = λ _ _.
    let is = rw c.in-Some.is at c.in_ok-command.ensures in
    has-ranges (map string_bytes c.args.words.now) (command_said c.in-Some.command) is

pub carry_out-requires-clause-task : goal.carry_out-requires-clause-task
carry_out-requires-clause-task g c = λ _ _.
    let is = rw c.in-Some.is at c.in_ok-command.ensures in
    task_suits (map string_bytes c.args.words.now) (command_said c.in-Some.command) is

-- the files are those that the task left
pub returns-in_err-work-clause-untouched : goal.returns-in_err-work-clause-untouched
returns-in_err-work-clause-untouched g c = λ needs.
    let is = rw c.in-Some.is at c.in_ok-command.ensures in
    c.carry_out.ensures.untouched (needs-none (map string_bytes c.args.words.now) (command_said c.in-Some.command) is needs)

pub returns-clause-untouched : goal.returns-clause-untouched
returns-clause-untouched g c = λ needs.
    let is = rw c.in-Some.is at c.in_ok-command.ensures in
    c.carry_out.ensures.untouched (needs-none (map string_bytes c.args.words.now) (command_said c.in-Some.command) is needs)

pub returns-in_err-work-clause-unchanged : goal.returns-in_err-work-clause-unchanged
returns-in_err-work-clause-unchanged g c =
    let same : c.from_residual-in_err-work.result ≡ Err c.in_err-work.field-0.0 = search rules in
    rw same
    (λ not_write. c.in_err-work.ensures.unchanged (λ e.
    let written : c.in_err-work.field-0.0 ≡ Write = cc in
    not_write (ap Err written)))
