use Rattle.std.proofs.Common.{vec_len}
use Rattle.node_pool.proofs.Emptying.{Remaining}
use Rattle.node_pool.proofs.closing.remains.Given as goal

abbrev pub invariant-owners : goal.invariant-owners
invariant-owners g l = Remaining g.T.Task.label_of g.T.Task.ground_of g.known_ground l.fn.owners.items l.owners.items l.left.items

abbrev pub decreases-owners : goal.decreases-owners
decreases-owners g l = vec_len l.owners
