use Rattle.std.proofs.Common.{arith}
use Rattle.node_pool.proofs.Emptying.{remaining_begins, remaining_whole, remaining_next, remaining_ends}
use Rattle.node_pool.proofs.closing.remains.Goals as goal

pub owners-init : goal.owners-init
owners-init g c = rw c.new-left.ensures.items (remaining_begins g.T.Task.label_of g.T.Task.ground_of g.known_ground c.args.owners.items c.requires.1.1.1)

pub empty-requires-after_bounds : goal.empty-requires-after_bounds
empty-requires-after_bounds g c = λ _ _. (remaining_whole g.T.Task.label_of g.T.Task.ground_of g.known_ground c.args.owners.items c.owners.owners.items c.pop.new.self.items c.in-Some.owner c.owners.left.items c.in-Some.ensures.items c.owners.invariant).0

pub owners-preserved : goal.owners-preserved
owners-preserved g c = remaining_next g.T.Task.label_of g.T.Task.ground_of g.known_ground c.args.owners.items c.owners.owners.items c.pop.new.self.items c.in-Some.owner c.owners.left.items c.empty.new.left.items
    c.in-Some.ensures.items c.in_ok-empty.ensures.balance c.in_ok-empty.ensures.ground c.owners.invariant

pub returns-clause-balance : goal.returns-clause-balance
returns-clause-balance g c = remaining_ends g.T.Task.label_of g.T.Task.ground_of g.known_ground c.args.owners.items c.owners.owners.items c.owners.left.items (omega (arith, c.in_default.ensures.cases, c.owners.owners.ok.0)) c.owners.invariant

pub returns-clause-ground : goal.returns-clause-ground
returns-clause-ground g c = c.owners.invariant.tasks
