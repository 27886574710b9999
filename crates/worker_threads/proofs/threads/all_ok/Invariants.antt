use Rattle.std.proofs.Common.{◌≡◌, ◌++◌, map, length, Ok}
use Rattle.std.specs.Vec.Iter.{into_iter_items, into_iter_len}
use Rattle.worker_threads.proofs.threads.all_ok.Given as goal

abbrev pub invariant-results : goal.invariant-results
invariant-results g l = record {
  seen : l.yielded ++ into_iter_items l.result-iterator ≡ l.fn.results.items;
  count : into_iter_len l.result-iterator ≡ length (into_iter_items l.result-iterator);
  back : l.yielded ≡ map Ok l.dones.items;
}
