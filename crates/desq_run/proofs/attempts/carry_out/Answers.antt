use Rattle.std.proofs.Common.{ap}
use Rattle.command_line.specs.Commands.{task_said}
use Rattle.desq_run.proofs.attempts.carry_out.Goals as goal

pub give_answer-requires-clause-task : goal.give_answer-requires-clause-task
give_answer-requires-clause-task g c = λ _ _. ap task_said c.in-Mine.is

pub prove-requires-clause-task : goal.prove-requires-clause-task
prove-requires-clause-task g c = λ _ _. ap task_said c.in-Prove.is

pub check-requires-clause-task : goal.check-requires-clause-task
check-requires-clause-task g c = λ _ _. rw c.as_str.ensures.value (ap task_said c.in-Check.is)
