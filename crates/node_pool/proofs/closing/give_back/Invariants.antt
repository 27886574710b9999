use Rattle.std.proofs.Common.{vec_len}
use Rattle.node_pool.proofs.Returning.{Returning}
use Rattle.node_pool.proofs.closing.give_back.Given as goal

abbrev pub invariant-ways : goal.invariant-ways
invariant-ways g l = Returning l.fn.owners.items l.fn.ways.items l.owners.items l.ways.items

abbrev pub decreases-ways : goal.decreases-ways
decreases-ways g l = vec_len l.ways
