use Rattle.std.proofs.Common.{refl, sym, true≢false}
use Rattle.pool_schedule.specs.Machine.{seen}
use Rattle.pool_schedule.proofs.BalanceLemmas.{step-balance}
use Rattle.pool_schedule.proofs.NodeLemmas.{enabled-may}
use Rattle.pool_schedule.proofs.stepping.step.Goals as goal

pub returns-then-not-enables-clause-enabled : goal.returns-then-not-enables-clause-enabled
returns-then-not-enables-clause-enabled g c = (
  (λ t. absurd (true≢false (sym t))),
  (λ can. c.if-not-enables.ensures.1
      (enabled-may (g.G.Grow.label_of c.args.g.now) (g.G.Grow.kids_of c.args.g.now) c.args.event c.args.machine.now can)),
)

pub returns-clause-enabled : goal.returns-clause-enabled
returns-clause-enabled g c = (
  (λ _. (seen (g.G.Grow.label_of c.args.g.now) c.perform.new.machine, c.in_ok-perform.ensures.done)),
  (λ _. refl),
)

pub returns-clause-balance : goal.returns-clause-balance
returns-clause-balance g c = λ roots balance.
    step-balance roots (g.G.Grow.kids_of c.args.g.now) c.args.event (seen (g.G.Grow.label_of c.args.g.now) c.args.machine.now)
    (seen (g.G.Grow.label_of c.args.g.now) c.perform.new.machine) c.in_ok-perform.ensures.done balance
