use Rattle.std.proofs.Common.{arith}
use Rattle.node_pool.proofs.Steps.{puts}
use Rattle.node_pool.proofs.seat.Seat.put.Goals as goal

pub push_as-requires-clause-pushes : goal.push_as-requires-clause-pushes
push_as-requires-clause-pushes g c = puts g.T.Task.label_of g.T.Task.ground_of _ _ _ (omega (arith, c.args.self.now.few, c.args.self.now.parts)) c.requires
