use Rattle.std.proofs.Common.{◌≡◌, length, [], ap, ◌∙◌, arith}
use Rattle.node_pool.specs.Rule.{account}
use Rattle.node_pool.specs.Ways.{share}
use Rattle.crossbeam_deque.specs.Handles.{worker_deque}
use Rattle.node_pool.proofs.Kept.{partly_next, partly_all, partly_room, partly_ground, same_deques}
use Rattle.node_pool.proofs.NewWays.{same_length, owner_at, pool_next, ways_next}
use Rattle.node_pool.proofs.setup.ways.Goals as goal

pub way-requires-after_bounds : goal.way-requires-after_bounds
way-requires-after_bounds g c = λ _ _.
    let size : length c.ways.owners.items ≡ length c.args.owners.now.items = same_length worker_deque worker_deque _ _ c.ways.invariant.deques in
    let at = owner_at c.ways.k c.ways.owners.items c.index_mut.result.now (omega arith) c.index_mut.ensures.value in
    partly_room g.known_ground c.args.number c.ways.k c.ways.owners.items c.index_mut.result.now (omega arith) (omega arith) at c.ways.invariant.parts

pub ways-preserved : goal.ways-preserved
ways-preserved g c =
    let size : length c.ways.owners.items ≡ length c.args.owners.now.items = same_length worker_deque worker_deque _ _ c.ways.invariant.deques in
    let at = owner_at c.ways.k c.ways.owners.items c.index_mut.result.now (omega arith) c.index_mut.ensures.value in record {
      deques = same_deques c.ways.k c.ways.owners.items c.index_mut.result.now c.way.new.owner at c.way.ensures.same ∙ c.ways.invariant.deques;
      parts = partly_next g.known_ground c.args.number c.ways.k c.ways.owners.items c.index_mut.result.now c.way.new.owner (omega arith) at c.ways.invariant.parts c.in_ok-way.ensures.left;
      pool = rw c.in_ok-push.ensures.items (pool_next c.ways.k c.args.owners.now.items c.ways.owners.items c.index_mut.result.now c.ways.ways.items c.in_ok-way.field-0 c.ways.invariant.deques c.ways.invariant.pool at c.in_ok-way.ensures.there);
      ways = rw c.in_ok-push.ensures.items (ways_next g.known_ground c.args.number c.ways.k c.args.owners.now.items c.ways.ways.items c.in_ok-way.field-0 (omega arith) c.ways.invariant.pool c.ways.invariant.ways
          (c.in_ok-way.ensures.right ∙ ap (λ known_ground. account (share c.args.number c.ways.k) [] [] known_ground) (partly_ground g.known_ground c.args.number c.ways.k c.ways.owners.items c.index_mut.result.now at c.ways.invariant.parts)));
    }

pub returns-clause-left : goal.returns-clause-left
returns-clause-left g c =
    let size : length c.ways.owners.items ≡ length c.args.owners.now.items = same_length worker_deque worker_deque _ _ c.ways.invariant.deques in
    partly_all g.known_ground c.args.number c.ways.k c.ways.owners.items (omega arith) c.ways.invariant.parts
