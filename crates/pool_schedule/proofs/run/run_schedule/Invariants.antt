use Rattle.pool_schedule.specs.State.{start, IsBalanced}
use Rattle.pool_schedule.specs.Machine.{seen, IsOwned, HasRows}
use Rattle.pool_schedule.proofs.Measure.{IsWithin, to_do}
use Rattle.pool_schedule.proofs.OrderLemmas.{LeadsOn}
use Rattle.pool_schedule.proofs.run.run_schedule.Given as goal

abbrev pub invariant-events : goal.invariant-events
invariant-events g l = record {
  room : g.G.Grow.IsRoomy l.g l.room;
  own : IsOwned (g.G.Grow.IsOwn l.g) l.machine;
  rows : HasRows (g.G.Grow.row_of l.g) l.machine;
  balance : IsBalanced (g.G.Grow.roots_of l.g) (g.G.Grow.kids_of l.g) (seen (g.G.Grow.label_of l.g) l.machine);
  within : IsWithin g.tree (seen (g.G.Grow.label_of l.g) l.machine);
  leads : LeadsOn (g.G.Grow.kids_of l.g) l.choices (start (g.G.Grow.roots_of l.g) l.workers) l.left (seen (g.G.Grow.label_of l.g) l.machine);
}

abbrev pub decreases-events : goal.decreases-events
decreases-events g l = to_do g.tree l.left (seen (g.G.Grow.label_of l.g) l.machine)
