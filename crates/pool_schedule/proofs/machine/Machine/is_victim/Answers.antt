use Rattle.pool_schedule.proofs.machine.Machine.is_victim.Goals as goal

pub returns-then-from-w : goal.returns-then-from-w
returns-then-from-w g c = ((λ t. (c.if-from-w.true, c.is_filled.ensures.0 t)), (λ both. c.is_filled.ensures.1 both.1))
