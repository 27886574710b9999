use Rattle.std.proofs.Common.{Some}
use Rattle.node_pool.proofs.setup.deque.Given as goal

abbrev pub ghosts-found : goal.ghosts-found
ghosts-found g a = record { known_ground = Some a._ground.now }
