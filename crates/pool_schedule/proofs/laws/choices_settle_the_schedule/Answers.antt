use Rattle.std.proofs.Common.{refl}
use Rattle.pool_schedule.specs.State.{start}
use Rattle.pool_schedule.proofs.BalanceLemmas.{start-balance, start-within}
use Rattle.pool_schedule.proofs.ScheduleLemmas.{schedule_ends}
use Rattle.pool_schedule.proofs.OrderLemmas.{schedule_settled}
use Rattle.pool_schedule.proofs.laws.choices_settle_the_schedule.Goals as goal

pub returns : goal.returns
returns c = record {
  settled = λ kids choices first events others last end s t. schedule_settled kids choices first first refl events others last end s t;
  ends = λ tree roots kids covers workers choices.
      schedule_ends tree roots kids covers choices (start roots workers) (start-balance roots kids workers) (start-within tree roots workers);
}
