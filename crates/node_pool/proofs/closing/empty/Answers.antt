use Rattle.std.proofs.Common.{arith}
use Rattle.crossbeam_deque.specs.Handles.{worker_view}
use Rattle.node_pool.proofs.Steps.{steals, takes, finds}
use Rattle.node_pool.proofs.Emptying.{emptying_begins, emptying_next, emptying_falls, emptying_ends}
use Rattle.node_pool.proofs.closing.empty.Goals as goal

pub tasks-init : goal.tasks-init
tasks-init g c = emptying_begins g.T.Task.label_of g.T.Task.ground_of (worker_view c.args.owner) c.args.left.now.items c.requires

pub pop_as-requires-clause-fifo : goal.pop_as-requires-clause-fifo
pop_as-requires-clause-fifo g c = λ _. steals g.T.Task.label_of g.T.Task.ground_of _ _ (omega (arith, c.tasks.invariant.parts))

pub pop_as-requires-clause-lifo : goal.pop_as-requires-clause-lifo
pop_as-requires-clause-lifo g c = λ _. takes g.T.Task.label_of g.T.Task.ground_of _ _ (omega (arith, c.tasks.invariant.parts))

pub pop_as-requires-clause-empty : goal.pop_as-requires-clause-empty
pop_as-requires-clause-empty g c = finds g.T.Task.label_of g.T.Task.ground_of _ _

pub tasks-preserved : goal.tasks-preserved
tasks-preserved g c = rw c.in_ok-push.ensures.items (emptying_next g.T.Task.label_of g.T.Task.ground_of (worker_view c.args.owner) (worker_view c.tasks.owner) (worker_view c.pop_as.new.self) c.args.left.now.items c.tasks.left.items c.in-Some.task c.tasks.invariant c.in-Some.ensures.rule)

pub tasks-smaller : goal.tasks-smaller
tasks-smaller g c = emptying_falls g.T.Task.label_of g.T.Task.ground_of (worker_view c.args.owner) (worker_view c.tasks.owner) (worker_view c.pop_as.new.self) c.args.left.now.items c.tasks.left.items c.in-Some.task c.tasks.invariant c.in-Some.ensures.rule

pub returns-clause-balance : goal.returns-clause-balance
returns-clause-balance g c = emptying_ends g.T.Task.label_of g.T.Task.ground_of (worker_view c.args.owner) (worker_view c.tasks.owner) c.args.left.now.items c.tasks.left.items c.tasks.invariant (c.in_default.ensures.rule.1 c.tasks.invariant.parts)

pub returns-clause-ground : goal.returns-clause-ground
returns-clause-ground g c = c.tasks.invariant.tasks
