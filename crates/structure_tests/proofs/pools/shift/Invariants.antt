use Rattle.node_pool.specs.Pool.{SameSeat}
use Rattle.structure_tests.proofs.pools.shift.Given as goal

abbrev pub invariant-rounds : goal.invariant-rounds
invariant-rounds l = SameSeat l.fn.seat l.seat
