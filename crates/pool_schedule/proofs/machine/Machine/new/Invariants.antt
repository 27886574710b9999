use Rattle.pool_schedule.specs.Machine.{AllOwn, PendingRows}
use Rattle.pool_schedule.proofs.StartLemmas.{AreReady}
use Rattle.pool_schedule.proofs.machine.Machine.new.Given as goal

abbrev pub invariant-loop : goal.invariant-loop
invariant-loop g l = record {
  ready : AreReady (g.G.Grow.label_of l.g) (g.G.Grow.roots_of l.g) l.counter l.all.items;
  own : AllOwn (g.G.Grow.IsOwn l.g) l.all.items;
  rows : PendingRows (g.G.Grow.row_of l.g) l.all.items;
}
