use Rattle.std.proofs.Common.{◌≡◌, length}
use Rattle.node_pool.specs.Pool.{SameSeat, pool_of}
use Rattle.structure_tests.proofs.pools.seek.Given as goal

abbrev pub invariant-others : goal.invariant-others
invariant-others l = (l.from-end ≡ length (pool_of l.fn.seat)) × SameSeat l.fn.seat l.seat
