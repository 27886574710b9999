use Rattle.std.proofs.Common.{◌≡◌, ◌++◌, Some, length}
use Rattle.std.specs.Vec.Iter.{into_iter_items, into_iter_len}
use Rattle.node_pool.specs.Pool.{seat_ground, got, SameSeat}
use Rattle.search_engine.specs.Seats.{AreTasksOf}
use Rattle.search_engine.proofs.SeatLemmas.{ArePut}
use Rattle.search_engine.proofs.seats.put_all.Given as goal

abbrev pub invariant-tasks : goal.invariant-tasks
invariant-tasks g l = record {
  seen : l.yielded ++ into_iter_items l.task-iterator ≡ l.fn.tasks.items;
  count : into_iter_len l.task-iterator ≡ length (into_iter_items l.task-iterator);
  same : SameSeat l.fn.seat l.seat;
  got : got l.seat ≡ got l.fn.seat;
  are : ArePut g.T.Task.label_of l.fn.seat l.seat l.yielded l.fn.overflow.items l.overflow.items;
  own : (home : g.row.T-Ground.Denot) → seat_ground l.fn.seat ≡ Some home
      → AreTasksOf g.T.Task.ground_of home l.fn.overflow.items → AreTasksOf g.T.Task.ground_of home l.overflow.items;
}
