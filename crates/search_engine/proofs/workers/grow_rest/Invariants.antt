use Rattle.std.proofs.Common.{◌≡◌, ℕ, List, ◌++◌, map}
use Rattle.turn_lock.specs.Passes.{IsPassOf, number, made}
use Rattle.search_engine.specs.Seats.{AreTasksOf}
use Rattle.search_engine.specs.Shifts.{PostedFrom}
use Rattle.search_engine.proofs.workers.grow_rest.Given as goal

abbrev pub invariant-nodes : goal.invariant-nodes
invariant-nodes g l = record {
  pass_is : IsPassOf l.crew.board.now l.pass;
  number_is : number l.pass ≡ number l.fn.pass;
  roomy : g.S.Grow.IsRoomy l.crew.search.now l.room;
  own : AreTasksOf g.T.Task.ground_of l.crew.job.now l.rest.items;
  posted : (posted : List (List ℕ)) × (made l.pass ≡ made l.fn.pass ++ posted)
      × PostedFrom (g.S.Grow.kids_of l.crew.search.now) (map g.T.Task.label_of l.fn.rest.items) posted (map g.T.Task.label_of l.rest.items);
}
