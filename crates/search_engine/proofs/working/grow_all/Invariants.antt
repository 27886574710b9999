use Rattle.std.proofs.Common.{◌≡◌, map}
use Rattle.node_pool.specs.Pool.{SameSeat}
use Rattle.turn_lock.specs.Passes.{IsPassOf, number}
use Rattle.search_engine.specs.Seats.{AreTasksOf}
use Rattle.search_engine.specs.Shifts.{IsUnderWay}
use Rattle.search_engine.proofs.working.grow_all.Given as goal

abbrev pub invariant-nodes : goal.invariant-nodes
invariant-nodes g l = record {
  same : SameSeat l.fn.worker.seat l.worker.seat;
  pass_is : IsPassOf l.crew.board.now l.worker.pass;
  number_is : number l.worker.pass ≡ number l.fn.worker.pass;
  way : IsUnderWay (g.S.Grow.kids_of l.crew.search.now) l.fn.worker.seat l.worker.seat l.fn.worker.pass l.worker.pass (map g.T.Task.label_of l.overflow.items);
  own : AreTasksOf g.T.Task.ground_of l.crew.job.now l.overflow.items;
  room_is : g.S.Grow.IsRoomy l.crew.search.now l.room;
}
