use Rattle.std.proofs.Common.{◌≡◌, map}
use Rattle.crossbeam_deque.specs.Handles.{worker_deque}
use Rattle.node_pool.specs.Opening.{AreFresh, AreRows}
use Rattle.node_pool.proofs.setup.all_ways.Given as goal

abbrev pub ghost-ways : goal.ghost-ways
ghost-ways g a = g.known_ground

abbrev pub invariant-rows : goal.invariant-rows
invariant-rows g l = record {
  deques : map worker_deque l.owners.items ≡ map worker_deque l.fn.owners.items;
  fresh : AreFresh g.known_ground l.number l.owners.items;
  rows : AreRows g.known_ground (map worker_deque l.fn.owners.items) l.number l.rows.items;
}
