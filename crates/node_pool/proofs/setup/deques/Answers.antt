use Rattle.std.proofs.Common.{arith}
use Rattle.node_pool.proofs.Kept.{fresh_snoc}
use Rattle.node_pool.proofs.setup.deques.Goals as goal

pub deques-preserved : goal.deques-preserved
deques-preserved g c = (omega (arith, c.in_ok-push.ensures.len), rw c.in_ok-push.ensures.items (fresh_snoc _ _ _ c.deques.invariant.1 c.in_ok-deque.ensures))
