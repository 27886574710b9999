use Rattle.pool_schedule.proofs.StageLemmas.{take-then, take-else, steal-then, steal-else}
use Rattle.pool_schedule.proofs.machine.Machine.enables.Goals as goal

pub returns-then-is_at : goal.returns-then-is_at
returns-then-is_at g c =
    take-then c.args.self.now.workers.items c.args.event c.in-Take.w c.is_at-in-Take.result c.is_filled.result c.in-Take.is c.is_at-in-Take.ensures c.if-is_at.true c.is_filled.ensures

pub returns-else-is_at : goal.returns-else-is_at
returns-else-is_at g c =
    take-else c.args.self.now.workers.items c.args.event c.in-Take.w c.is_at-in-Take.result c.in-Take.is c.is_at-in-Take.ensures c.if-is_at.false

pub returns-then-is_at-2 : goal.returns-then-is_at-2
returns-then-is_at-2 g c =
    steal-then c.args.self.now.workers.items c.args.event c.in-Steal.w c.in-Steal.from c.is_at-in-Steal.result c.is_victim.result c.in-Steal.is c.is_at-in-Steal.ensures c.if-is_at-2.true c.is_victim.ensures

pub returns-else-is_at-2 : goal.returns-else-is_at-2
returns-else-is_at-2 g c =
    steal-else c.args.self.now.workers.items c.args.event c.in-Steal.w c.in-Steal.from c.is_at-in-Steal.result c.in-Steal.is c.is_at-in-Steal.ensures c.if-is_at-2.false
