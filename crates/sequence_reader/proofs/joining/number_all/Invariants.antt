use Rattle.std.proofs.Common.{◌≡◌, ◌+◌, ◌≤◌, ◌++◌, ℕ, Bool, List, length}
use Rattle.std.specs.List.{AllZip, flat_map}
use Rattle.std.specs.Vec.Iter.{into_iter_items, into_iter_len}
use Rattle.text_ports.specs.Scanning.{lines_behind}
use Rattle.sequence_reader.specs.Taking.{behind, IsTaken, all_waiting, with_waiting}
use Rattle.sequence_reader.proofs.joining.number_all.Given as goal

abbrev pub invariant-readings : goal.invariant-readings
invariant-readings l = record {
  seen : l.yielded ++ into_iter_items l.reading-iterator ≡ l.fn.readings.items;
  count : into_iter_len l.reading-iterator ≡ length (into_iter_items l.reading-iterator);
  few : l.count ≤ 4194304;
  as_many : l.count ≡ length l.fn.all.db + length (all_waiting l.waiting.items);
  joined : (known earlier texts : List (List ℕ)) (weighted : Bool) → IsTaken known weighted earlier l.fn.all
      → AllZip (λ text reading. IsTaken l.fn.all.names weighted (lines_behind text) (behind l.fn.all.names reading)) texts l.yielded
      → IsTaken known weighted (earlier ++ flat_map lines_behind texts) (with_waiting l.all l.waiting.items);
  kept : (added : List (List ℕ)) × (l.all.names ≡ l.fn.all.names ++ added);
  same_db : l.all.db ≡ l.fn.all.db;
  same : l.all.weighted ≡ l.fn.all.weighted;
}
