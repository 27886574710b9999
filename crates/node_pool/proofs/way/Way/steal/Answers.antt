use Rattle.node_pool.proofs.Steps.{steals}
use Rattle.node_pool.proofs.way.Way.steal.Goals as goal

pub steal_as-requires-clause-takes : goal.steal_as-requires-clause-takes
steal_as-requires-clause-takes g c = steals g.T.Task.label_of g.T.Task.ground_of _ _ c.requires
