use Rattle.std.proofs.Common.{◌≡◌, ◌++◌, length}
use Rattle.std.specs.Vec.Iter.{into_iter_items, into_iter_len}
use Rattle.search_engine.specs.Crews.{AreWorkersOf}
use Rattle.search_engine.proofs.workers.apart.Given as goal

abbrev pub invariant-workers : goal.invariant-workers
invariant-workers g l = record {
  seen : l.yielded ++ into_iter_items l.worker-iterator ≡ l.fn.workers.items;
  count : into_iter_len l.worker-iterator ≡ length (into_iter_items l.worker-iterator);
  are : AreWorkersOf l.seats.items l.passes.items l.yielded;
}
