use Rattle.node_pool.specs.Pool.{SameSeat}
use Rattle.structure_tests.proofs.pools.fill.Given as goal

abbrev pub invariant-labels : goal.invariant-labels
invariant-labels l = SameSeat l.fn.seat l.seat
