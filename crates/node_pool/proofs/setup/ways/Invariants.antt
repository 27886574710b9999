use Rattle.std.proofs.Common.{◌≡◌, map, take}
use Rattle.crossbeam_deque.specs.Handles.{worker_deque}
use Rattle.node_pool.specs.Deques.{pool_by}
use Rattle.node_pool.specs.Opening.{AreNewWays}
use Rattle.node_pool.proofs.Kept.{Partly}
use Rattle.node_pool.proofs.setup.ways.Given as goal

abbrev pub invariant-ways : goal.invariant-ways
invariant-ways g l = record {
  deques : map worker_deque l.owners.items ≡ map worker_deque l.fn.owners.items;
  parts : Partly g.known_ground l.number l.k l.owners.items;
  pool : pool_by l.ways.items ≡ take l.k (map worker_deque l.fn.owners.items);
  ways : AreNewWays g.known_ground l.number l.ways.items;
}
