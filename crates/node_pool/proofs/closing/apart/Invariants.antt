use Rattle.std.proofs.Common.{◌≡◌, ◌++◌, map}
use Rattle.std.specs.Vec.Iter.{into_iter_items, into_iter_len}
use Rattle.std.proofs.Common.{length}
use Rattle.node_pool.proofs.closing.apart.Given as goal

abbrev pub invariant-seats : goal.invariant-seats
invariant-seats g l = record {
  seen : l.yielded ++ into_iter_items l.seat-iterator ≡ l.fn.seats.items;
  count : into_iter_len l.seat-iterator ≡ length (into_iter_items l.seat-iterator);
  owners : l.owners.items ≡ map (λ s. s.owner) l.yielded;
  rows : l.rows.items ≡ map (λ s. s.ways) l.yielded;
}
