use Rattle.std.proofs.Common.{◌≡◌, ◌++◌, length, List}
use Rattle.std.specs.Vec.Iter.{into_iter_items, into_iter_len}
use Rattle.search_engine.specs.Workers.{BoardPass}
use Rattle.search_engine.specs.Crews.{AreWorkersOf}
use Rattle.search_engine.proofs.workers.workers_of.Given as goal

abbrev pub invariant-seats : goal.invariant-seats
invariant-seats g l = record {
  seen : l.yielded ++ into_iter_items l.seat-iterator ≡ l.fn.seats.items;
  count : into_iter_len l.seat-iterator ≡ length (into_iter_items l.seat-iterator);
  many : length (into_iter_items l.rest) ≡ length (into_iter_items l.seat-iterator);
  passes : (taken : List BoardPass) × (taken ++ into_iter_items l.rest ≡ l.fn.passes.items)
      × AreWorkersOf l.yielded taken l.workers.items;
}
