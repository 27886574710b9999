use Rattle.pool_schedule.specs.State.{start}
use Rattle.pool_schedule.proofs.BalanceLemmas.{start-balance, runs-balance}
use Rattle.pool_schedule.proofs.laws.events_keep_the_balance.Goals as goal

pub returns : goal.returns
returns c roots kids workers events last s =
    runs-balance roots kids events (start roots workers) last s (start-balance roots kids workers)
