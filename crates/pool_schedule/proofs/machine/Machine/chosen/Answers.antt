use Rattle.pool_schedule.proofs.CountLemmas.{none-listed, picked}
use Rattle.pool_schedule.proofs.machine.Machine.chosen.Goals as goal

pub returns-then-count-eq0 : goal.returns-then-count-eq0
returns-then-count-eq0 g c label =
    none-listed label c.args.self.now.workers.items c.as_slice-workers.result.now c.filled_deques-filled.result c.enabled_events-count.result c.as_slice-workers.ensures.value
    c.filled_deques-filled.ensures c.enabled_events-count.ensures c.if-count-eq0.true

pub returns : goal.returns
returns g c label =
    picked label c.args.self.now.workers.items c.as_slice-workers.result.now c.filled_deques-filled.result c.enabled_events-count.result c.args.choice c.numbered.result
    c.as_slice-workers.ensures.value c.filled_deques-filled.ensures c.enabled_events-count.ensures (c.numbered.ensures label)
