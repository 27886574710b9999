use Rattle.std.proofs.Common.{arith}
use Rattle.node_pool.proofs.Steps.{spares, lends}
use Rattle.node_pool.proofs.Kept.{two_left}
use Rattle.node_pool.proofs.setup.right.Goals as goal

pub another-requires : goal.another-requires
another-requires g c = spares g.T.Task.label_of g.T.Task.ground_of _ _ (omega (arith, c.requires))

pub another-requires-else-k-number : goal.another-requires-else-k-number
another-requires-else-k-number g c = lends g.T.Task.label_of g.T.Task.ground_of _ _ (two_left _ _ _ c.if-k-number.false c.requires)
