use Rattle.std.proofs.Common.{vec_len}
use Rattle.node_pool.proofs.Gathering.{Gathering}
use Rattle.node_pool.proofs.closing.gather.Given as goal

abbrev pub invariant-rows : goal.invariant-rows
invariant-rows g l = Gathering g.known_ground l.fn.owners.items l.fn.rows.items l.owners.items l.rows.items

abbrev pub decreases-rows : goal.decreases-rows
decreases-rows g l = vec_len l.rows
