use Rattle.std.proofs.Common.{map, length, vec_len}
use Rattle.crossbeam_deque.specs.Handles.{worker_deque}
use Rattle.node_pool.proofs.Seating.{Seating}
use Rattle.node_pool.proofs.setup.seated.Given as goal

abbrev pub invariant-seats : goal.invariant-seats
invariant-seats g l = Seating g.known_ground (length l.fn.owners.items) (map worker_deque l.fn.owners.items) l.owners.items l.rows.items l.seats.items

abbrev pub decreases-seats : goal.decreases-seats
decreases-seats g l = vec_len l.owners
