use Rattle.std.proofs.Common.{◌≡◌, ◌<◌, ◌∙◌, sym, length, map, Some, vec_len, arith, rules, All}
use Rattle.std.proofs.lemmas.List.{length-map}
use Rattle.std.proofs.lemmas.Result.{IfOk-weaker}
use Rattle.crossbeam_deque.specs.Handles.{worker_deque}
use Rattle.node_pool.specs.Pool.{seat_ground, IsWholePool}
use Rattle.node_pool.specs.Opening.{AreSeats}
use Rattle.node_pool.proofs.Kept.{first_ground, first_fresh, first_ground_is, fresh_for, rows_for}
use Rattle.node_pool.proofs.NewWays.{same_length}
use Rattle.node_pool.proofs.Opened.{whole_pool, all_ground}
use Rattle.node_pool.proofs.setup.open.Goals as goal
use Rattle.mine_model.proofs.ResultLemmas.{ok_both}

pub all_ways-requires-send-T : goal.all_ways-requires-send-T
all_ways-requires-send-T g c κs within =
    (search rules, (search rules, (search rules, (first_fresh (Some c.args.ground.now) 0 c.in_ok-owners.owners.items c.in_ok-owners.ensures.fresh, omega (arith, c.in_ok-owners.ensures.count)))))

pub seated-requires-send-T : goal.seated-requires-send-T
seated-requires-send-T g c κs within =
    let size : length c.all_ways.new.owners.items ≡ length c.in_ok-owners.owners.items = same_length worker_deque worker_deque _ _ c.in_ok-rows.ensures.same in
    let count : vec_len c.in_ok-owners.owners ≡ vec_len c.all_ways.new.owners = omega (arith, c.in_ok-owners.owners.ok.0, c.all_ways.new.owners.ok.0) in
    let some : 0 < length c.all_ways.new.owners.items = omega (arith, c.in_ok-owners.owners.ok.0, c.in_ok-owners.ensures.count) in
    let known_ground : first_ground c.in_ok-owners.owners.items ≡ first_ground c.all_ways.new.owners.items =
    sym (first_ground_is (first_ground c.in_ok-owners.owners.items) (vec_len c.in_ok-owners.owners) c.all_ways.new.owners.items some c.in_ok-rows.ensures.left) in (
      search rules,
      (
        search rules,
        (
          search rules,
          (
            fresh_for _ _ _ _ _ known_ground count c.in_ok-rows.ensures.left,
            (omega (arith, c.in_ok-owners.ensures.count), rows_for _ _ _ _ _ _ _ known_ground (sym c.in_ok-rows.ensures.same) count c.in_ok-rows.ensures.rows),
          ),
        ),
      ),
    )

pub returns-clause-pool : goal.returns-clause-pool
returns-clause-pool g c =
    let n = length-map c.all_ways.new.owners.items worker_deque in
    IfOk-weaker c.seated.result
    (λ seats. (vec_len seats ≡ vec_len c.all_ways.new.owners) × AreSeats (first_ground c.all_ways.new.owners.items) (map worker_deque c.all_ways.new.owners.items) seats.items)
    (λ seats. IsWholePool seats.items)
    (λ seats h. whole_pool (first_ground c.all_ways.new.owners.items) (map worker_deque c.all_ways.new.owners.items) seats.items (omega (arith, h.0, seats.ok.0, c.all_ways.new.owners.ok.0)) h.1)
    (ok_both c.seated.result _ _ c.seated.ensures.count c.seated.ensures.seats)

pub returns-clause-ground : goal.returns-clause-ground
returns-clause-ground g c =
    let size : length c.all_ways.new.owners.items ≡ length c.in_ok-owners.owners.items = same_length worker_deque worker_deque _ _ c.in_ok-rows.ensures.same in
    let some : 0 < length c.all_ways.new.owners.items = omega (arith, c.in_ok-owners.owners.ok.0, c.in_ok-owners.ensures.count) in
    let were : 0 < length c.in_ok-owners.owners.items = omega arith in
    let known_ground : first_ground c.all_ways.new.owners.items ≡ Some c.args.ground.now =
    first_ground_is (first_ground c.in_ok-owners.owners.items) (vec_len c.in_ok-owners.owners) c.all_ways.new.owners.items some c.in_ok-rows.ensures.left
    ∙ first_ground_is (Some c.args.ground.now) 0 c.in_ok-owners.owners.items were c.in_ok-owners.ensures.fresh in
    IfOk-weaker c.seated.result
    (λ seats. AreSeats (first_ground c.all_ways.new.owners.items) (map worker_deque c.all_ways.new.owners.items) seats.items)
    (λ seats. All (λ seat. seat_ground seat ≡ Some c.args.ground.now) seats.items)
    (λ seats h. all_ground (first_ground c.all_ways.new.owners.items) (map worker_deque c.all_ways.new.owners.items) seats.items (Some c.args.ground.now) known_ground h)
    c.seated.ensures.seats
