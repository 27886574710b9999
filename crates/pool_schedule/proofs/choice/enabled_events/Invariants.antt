use Rattle.std.proofs.Common.{◌≡◌, ◌*◌, ◌≤◌, take, sum_by}
use Rattle.pool_schedule.specs.Worker.{events_by}
use Rattle.pool_schedule.proofs.choice.enabled_events.Given as goal

abbrev pub invariant-loop-worker : goal.invariant-loop-worker
invariant-loop-worker g l = (l.count ≡ sum_by (events_by l.filled) (take l.worker-index l.workers)) × (l.count ≤ 66 * l.worker-index)
