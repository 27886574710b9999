use Rattle.std.proofs.Common.{◌≡◌, ◌++◌, length}
use Rattle.std.specs.Vec.Iter.{into_iter_items, into_iter_len}
use Rattle.cand_automaton.specs.Workers.{AreGathered}
use Rattle.cand_automaton.proofs.mining.gathered.Given as goal

abbrev pub invariant-results : goal.invariant-results
invariant-results l = record {
  seen : l.yielded ++ into_iter_items l.result-iterator ≡ l.fn.results.items;
  count : into_iter_len l.result-iterator ≡ length (into_iter_items l.result-iterator);
  found : AreGathered l.yielded (record { rows = l.rows; sets = l.sets });
}
