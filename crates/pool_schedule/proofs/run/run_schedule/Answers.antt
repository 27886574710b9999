use Rattle.std.proofs.Common.{sym, ap}
use Rattle.pool_schedule.specs.State.{start}
use Rattle.pool_schedule.specs.Schedule.{enabled}
use Rattle.pool_schedule.specs.Machine.{seen}
use Rattle.pool_schedule.specs.declared.machine.Posted.{Posted}
use Rattle.pool_schedule.proofs.BalanceLemmas.{step-within}
use Rattle.pool_schedule.proofs.RunLemmas.{picked_step, picks_first, begins_within, begins_leading, goes_on, less_to_do, ends_posted, ends_covered}
use Rattle.pool_schedule.proofs.run.run_schedule.Goals as goal

pub events-init : goal.events-init
events-init g c = record {
  room = c.in_ok-room.ensures;
  own = c.in_ok-machine.ensures.own;
  rows = c.in_ok-machine.ensures.rows;
  balance = c.in_ok-machine.ensures.balance;
  within = begins_within g.tree (g.G.Grow.roots_of c.args.g.now) c.args.workers (seen (g.G.Grow.label_of c.args.g.now) c.in_ok-machine.machine) c.in_ok-machine.ensures.start;
  leads = begins_leading (g.G.Grow.kids_of c.args.g.now) c.args.choices.now (start (g.G.Grow.roots_of c.args.g.now) c.args.workers)
      (seen (g.G.Grow.label_of c.args.g.now) c.in_ok-machine.machine) c.in_ok-machine.ensures.start;
}

pub returns-in_default-clause-labels : goal.returns-in_default-clause-labels
returns-in_default-clause-labels g c =
    ends_posted (g.G.Grow.roots_of c.args.g.now) (g.G.Grow.kids_of c.args.g.now) c.args.workers c.args.choices.now c.events.left.now
    (seen (g.G.Grow.label_of c.args.g.now) c.events.machine) c.into_posted.result.labels c.events.invariant.leads (c.in_default.ensures (g.G.Grow.label_of c.args.g.now))
    (ap (λ (p : Posted). p.labels) (sym c.into_posted.ensures))

pub returns-in_default-clause-cover : goal.returns-in_default-clause-cover
returns-in_default-clause-cover g c =
    ends_covered (g.G.Grow.roots_of c.args.g.now) (g.G.Grow.kids_of c.args.g.now)
    (seen (g.G.Grow.label_of c.args.g.now) c.events.machine) c.into_posted.result.labels c.events.invariant.balance (c.in_default.ensures (g.G.Grow.label_of c.args.g.now))
    (ap (λ (p : Posted). p.labels) (sym c.into_posted.ensures))

pub events-smaller : goal.events-smaller
events-smaller g c =
    let picked = picks_first (enabled (seen (g.G.Grow.label_of c.args.g.now) c.events.machine)) c.next_choice-choice.result.0 c.events.left.now c.in-Some.event
    c.next_choice-choice.ensures.choice (c.in-Some.ensures (g.G.Grow.label_of c.args.g.now)) in
    let step = picked_step (g.G.Grow.kids_of c.args.g.now) c.in-Some.event (seen (g.G.Grow.label_of c.args.g.now) c.events.machine) (seen (g.G.Grow.label_of c.args.g.now) c.step.new.machine)
    c.next_choice-choice.result.0 c.in_ok-step.field-0 (c.in-Some.ensures (g.G.Grow.label_of c.args.g.now)) c.in_ok-step.ensures.done c.in_ok-step.ensures.enabled in
    less_to_do g.tree (g.G.Grow.roots_of c.args.g.now) (g.G.Grow.kids_of c.args.g.now) c.events.left.now c.next_choice-choice.result.1.now
    (seen (g.G.Grow.label_of c.args.g.now) c.events.machine) (seen (g.G.Grow.label_of c.args.g.now) c.step.new.machine) c.in-Some.event
    c.requires.1.1.1.1.1 c.next_choice-choice.ensures.later picked step c.events.invariant.balance c.events.invariant.within

pub events-preserved : goal.events-preserved
events-preserved g c =
    let picked = picks_first (enabled (seen (g.G.Grow.label_of c.args.g.now) c.events.machine)) c.next_choice-choice.result.0 c.events.left.now c.in-Some.event
    c.next_choice-choice.ensures.choice (c.in-Some.ensures (g.G.Grow.label_of c.args.g.now)) in
    let step = picked_step (g.G.Grow.kids_of c.args.g.now) c.in-Some.event (seen (g.G.Grow.label_of c.args.g.now) c.events.machine) (seen (g.G.Grow.label_of c.args.g.now) c.step.new.machine)
    c.next_choice-choice.result.0 c.in_ok-step.field-0 (c.in-Some.ensures (g.G.Grow.label_of c.args.g.now)) c.in_ok-step.ensures.done c.in_ok-step.ensures.enabled in
    record {
      room = c.in_ok-step.ensures.room;
      own = c.in_ok-step.ensures.own;
      rows = c.in_ok-step.ensures.rows c.events.invariant.rows;
      balance = c.in_ok-step.ensures.balance (g.G.Grow.roots_of c.args.g.now) c.events.invariant.balance;
      within = step-within g.tree (g.G.Grow.roots_of c.args.g.now) (g.G.Grow.kids_of c.args.g.now) c.requires.1.1.1.1.1 c.in-Some.event
          (seen (g.G.Grow.label_of c.args.g.now) c.events.machine) (seen (g.G.Grow.label_of c.args.g.now) c.step.new.machine) step c.events.invariant.balance c.events.invariant.within;
      leads = goes_on (g.G.Grow.kids_of c.args.g.now) c.args.choices.now c.events.left.now c.next_choice-choice.result.1.now (start (g.G.Grow.roots_of c.args.g.now) c.args.workers)
          (seen (g.G.Grow.label_of c.args.g.now) c.events.machine) (seen (g.G.Grow.label_of c.args.g.now) c.step.new.machine) c.in-Some.event
          c.next_choice-choice.ensures.later c.events.invariant.leads picked step;
    }
