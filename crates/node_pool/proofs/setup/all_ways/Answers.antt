use Rattle.std.proofs.Common.{◌≡◌, length, ◌∙◌, arith, rules}
use Rattle.crossbeam_deque.specs.Handles.{worker_deque}
use Rattle.node_pool.proofs.NewWays.{same_length, rows_next}
use Rattle.node_pool.proofs.setup.all_ways.Goals as goal

pub ways-requires-send-T : goal.ways-requires-send-T
ways-requires-send-T g c κs within =
    let size : length c.rows.owners.items ≡ length c.args.owners.now.items = same_length worker_deque worker_deque _ _ c.rows.invariant.deques in
    (search rules, (search rules, (search rules, (c.rows.invariant.fresh, (omega (arith, c.rows.owners.ok.0, c.args.owners.now.ok.0), omega (arith, c.rows.owners.ok.0, c.args.owners.now.ok.0))))))

pub rows-preserved : goal.rows-preserved
rows-preserved g c = record {
  deques = c.in_ok-ways.ensures.same ∙ c.rows.invariant.deques;
  fresh = c.in_ok-ways.ensures.left;
  rows = rw c.in_ok-push.ensures.items (rows_next g.known_ground _ _ _ _ c.rows.invariant.rows (c.in_ok-ways.ensures.pool ∙ c.rows.invariant.deques) c.in_ok-ways.ensures.ways);
}
