use Rattle.desq_run.proofs.inputs.closed.Goals as goal

pub returns-in_ok-hierarchy-in-Some-clause-closed : goal.returns-in_ok-hierarchy-in-Some-clause-closed
returns-in_ok-hierarchy-in-Some-clause-closed c = rw c.in-Some.is c.in_ok-hierarchy-in-Some.ensures.closed
