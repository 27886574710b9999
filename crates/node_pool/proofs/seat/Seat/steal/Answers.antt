use Rattle.std.proofs.Common.{refl, ap, ◌∙◌, slice_get, arith, ◌+◌, length-set}
use Rattle.crossbeam_deque.specs.Handles.{view, worker_view}
use Rattle.node_pool.proofs.Ways.{way_at, came_ground, stole_pool, stole_rights, stole_some, stole_none, stole_from, stole_nothing, none_both}
use Rattle.node_pool.proofs.seat.Seat.steal.Goals as goal

pub invariant_of-self : goal.invariant_of-self
invariant_of-self g c = let ways = c.args.self.now.ways.items in let here = way_at _ _ _ c.requires.within c.index_mut.ensures.value in record {
  own = ap (λ l. slice_get l c.args.self.now.number)
      (stole_pool g.T.Task.label_of g.T.Task.ground_of ways c.args.from c.index_mut.result.now c.steal-task.new.self here c.steal-task.ensures.same) ∙ c.args.self.now.own;
  few = omega (arith, c.args.self.now.few, length-set ways c.args.from c.steal-task.new.self);
  parts = ap (λ n. (worker_view c.args.self.now.owner).parts + n) (length-set ways c.args.from c.steal-task.new.self) ∙ c.args.self.now.parts;
  rights = stole_rights g.T.Task.label_of g.T.Task.ground_of ways c.args.from c.index_mut.result.now c.steal-task.new.self here c.args.self.now.number (worker_view c.args.self.now.owner).known_ground
      c.steal-task.result c.steal-task.ensures.rule c.args.self.now.rights c.requires.other;
}

pub returns-clause-same : goal.returns-clause-same
returns-clause-same g c = let here = way_at _ _ _ c.requires.within c.index_mut.ensures.value in
    (refl, stole_pool g.T.Task.label_of g.T.Task.ground_of c.args.self.now.ways.items c.args.from c.index_mut.result.now c.steal-task.new.self here c.steal-task.ensures.same, refl)

pub returns-clause-some : goal.returns-clause-some
returns-clause-some g c = let here = way_at _ _ _ c.requires.within c.index_mut.ensures.value in
    stole_some g.T.Task.label_of g.T.Task.ground_of c.args.self.now.ways.items c.args.from c.index_mut.result.now c.steal-task.new.self here c.steal-task.result (worker_view c.args.self.now.owner).got c.steal-task.ensures.rule

pub returns-clause-ground : goal.returns-clause-ground
returns-clause-ground g c = let here = way_at _ _ _ c.requires.within c.index_mut.ensures.value in
    came_ground g.T.Task.label_of g.T.Task.ground_of c.steal-task.result (view c.index_mut.result.now.right) _ (c.args.self.now.rights c.args.from c.index_mut.result.now here).2 c.steal-task.ensures.ground

pub returns-clause-from : goal.returns-clause-from
returns-clause-from g c = let here = way_at _ _ _ c.requires.within c.index_mut.ensures.value in
    stole_from g.T.Task.label_of g.T.Task.ground_of c.args.self.now.ways.items c.args.from c.index_mut.result.now c.steal-task.new.self here c.args.self.now.number c.steal-task.result
    (worker_view c.args.self.now.owner).got c.steal-task.ensures.rule c.requires.other

pub returns-clause-none : goal.returns-clause-none
returns-clause-none g c = let here = way_at _ _ _ c.requires.within c.index_mut.ensures.value in
    none_both c.steal-task.result _ _
    (stole_none g.T.Task.label_of g.T.Task.ground_of c.args.self.now.ways.items c.args.from c.index_mut.result.now c.steal-task.new.self here c.steal-task.result (worker_view c.args.self.now.owner).got c.steal-task.ensures.rule)
    (stole_nothing g.T.Task.label_of g.T.Task.ground_of c.args.self.now.ways.items c.args.from c.index_mut.result.now c.steal-task.new.self here c.args.self.now.number c.steal-task.result
    (worker_view c.args.self.now.owner).got c.steal-task.ensures.rule)
