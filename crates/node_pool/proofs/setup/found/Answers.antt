use Rattle.std.proofs.Common.{ap}
use Rattle.node_pool.proofs.Steps.{founds}
use Rattle.node_pool.proofs.setup.found.Goals as goal

pub another-requires : goal.another-requires
another-requires g c = founds g.T.Task.label_of g.T.Task.ground_of _ _ g.K.Grounded.known_ground (ap (λ v. v.parts) c.requires) (ap (λ v. v.known_ground) c.requires)
