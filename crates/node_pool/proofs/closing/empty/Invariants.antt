use Rattle.std.proofs.Common.{length, ◌-◌}
use Rattle.crossbeam_deque.specs.Handles.{worker_view}
use Rattle.node_pool.proofs.Emptying.{Emptying}
use Rattle.node_pool.proofs.closing.empty.Given as goal

abbrev pub invariant-tasks : goal.invariant-tasks
invariant-tasks g l = Emptying g.T.Task.label_of g.T.Task.ground_of (worker_view l.fn.owner) (worker_view l.owner) l.fn.left.items l.left.items

abbrev pub decreases-tasks : goal.decreases-tasks
decreases-tasks g l = length (worker_view l.owner).given - length (worker_view l.owner).got
