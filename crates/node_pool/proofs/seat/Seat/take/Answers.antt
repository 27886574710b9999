use Rattle.std.proofs.Common.{arith}
use Rattle.node_pool.proofs.Steps.{steals, takes, finds}
use Rattle.node_pool.proofs.Ways.{took_ground, took_alone, own_within}
use Rattle.node_pool.proofs.seat.Seat.take.Goals as goal

pub pop_as-task-requires-clause-fifo : goal.pop_as-task-requires-clause-fifo
pop_as-task-requires-clause-fifo g c = λ _. steals g.T.Task.label_of g.T.Task.ground_of _ _ (omega (arith, c.args.self.now.few, c.args.self.now.parts))

pub pop_as-task-requires-clause-lifo : goal.pop_as-task-requires-clause-lifo
pop_as-task-requires-clause-lifo g c = λ _. takes g.T.Task.label_of g.T.Task.ground_of _ _ (omega (arith, c.args.self.now.few, c.args.self.now.parts))

pub pop_as-task-requires-clause-empty : goal.pop_as-task-requires-clause-empty
pop_as-task-requires-clause-empty g c = finds g.T.Task.label_of g.T.Task.ground_of _ _

pub noted-self-requires : goal.noted-self-requires
noted-self-requires g c = omega (arith, c.args.self.now.few, own_within c.args.self.now.number _ c.args.self.now.ways.items c.args.self.now.own)

pub returns-clause-ground : goal.returns-clause-ground
returns-clause-ground g c = took_ground g.T.Task.label_of g.T.Task.ground_of _ _ _ _ c.pop_as-task.ensures.rule

pub returns-clause-alone : goal.returns-clause-alone
returns-clause-alone g c = took_alone g.T.Task.label_of g.T.Task.ground_of _ _ _ _ _ _ c.pop_as-task.ensures.rule c.args.self.now.rights (own_within c.args.self.now.number _ c.args.self.now.ways.items c.args.self.now.own) c.args.self.now.parts
