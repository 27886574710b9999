use Rattle.std.proofs.Common.{◌≡◌, ◌++◌, length}
use Rattle.std.specs.Vec.Iter.{into_iter_items, into_iter_len}
use Rattle.layer_tests.proofs.growing.node_at.Given as goal

abbrev pub invariant-nodes : goal.invariant-nodes
invariant-nodes l = record {
  seen : l.yielded ++ into_iter_items l.node-iterator ≡ l.fn.nodes.items;
  count : into_iter_len l.node-iterator ≡ length (into_iter_items l.node-iterator);
}
