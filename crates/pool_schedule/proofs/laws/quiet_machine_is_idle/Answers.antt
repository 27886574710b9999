use Rattle.pool_schedule.proofs.QuietLemmas.{idle_from_quiet, quiet_from_idle}
use Rattle.pool_schedule.proofs.laws.quiet_machine_is_idle.Goals as goal

pub returns : goal.returns
returns c kids state = ((λ quiet. idle_from_quiet kids state quiet), (λ still. quiet_from_idle kids state still))
