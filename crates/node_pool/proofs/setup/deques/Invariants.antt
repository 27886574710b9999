use Rattle.std.proofs.Common.{◌≤◌, ◌-◌, Some, vec_len}
use Rattle.node_pool.specs.Opening.{AreFresh}
use Rattle.node_pool.proofs.setup.deques.Given as goal

abbrev pub invariant-deques : goal.invariant-deques
invariant-deques g l = (vec_len l.owners ≤ l.workers) × AreFresh (Some l.ground) 0 l.owners.items

abbrev pub decreases-deques : goal.decreases-deques
decreases-deques g l = l.workers - vec_len l.owners
