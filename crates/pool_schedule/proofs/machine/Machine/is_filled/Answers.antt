use Rattle.std.proofs.Common.{ap, ◌∙◌}
use Rattle.std.specs.Prelude.{◌==◌}
use Rattle.pool_schedule.proofs.StageLemmas.{read-at, is-filled}
use Rattle.pool_schedule.proofs.machine.Machine.is_filled.Goals as goal

pub returns : goal.returns
returns g c =
    is-filled c.args.self.now.workers.items c.args.w c.in-Some.worker.now c.is_empty.result
    (read-at c.args.self.now.workers.items c.deref.result.now c.args.w c.in-Some.worker.now c.deref.ensures.value c.in-Some.ensures.lookup.0 c.in-Some.ensures.lookup.1)
    (c.is_empty.ensures ∙ ap (λ n. n == 0) c.in-Some.worker.now.deque.ok.0)
