use Rattle.node_pool.proofs.Dry.{marked}
use Rattle.node_pool.proofs.play.noted.Goals as goal

pub returns-else-found-clause-not_found : goal.returns-else-found-clause-not_found
returns-else-found-clause-not_found c = λ _ k. marked c.args.dry c.args.deque k c.requires
