use Rattle.std.proofs.Common.{◌≡◌, length, arith, rules, All, map, ◌++◌, flat_map, sum_by, List, ℕ, ◌+◌, Some}
use Rattle.std.proofs.lemmas.Result.{IfOk-weaker}
use Rattle.mine_model.specs.Labels.{SameLabels}
use Rattle.node_pool.specs.Closing.{given_weight, got_weight}
use Rattle.node_pool.specs.Pool.{given, got, seat_ground}
use Rattle.node_pool.proofs.Kept.{first_ground}
use Rattle.node_pool.proofs.Finishing.{can_gather, have_own, balances, grounds}
use Rattle.node_pool.proofs.closing.finish.Goals as goal

pub gather-requires-send-T : goal.gather-requires-send-T
gather-requires-send-T g c κs within =
    let can = can_gather c.args.seats.items c.in_ok-owners.owners.items c.in_ok-owners.rows.items c.in_ok-owners.rows.len c.in_ok-owners.ensures.owners c.in_ok-owners.ensures.rows c.in_ok-owners.rows.ok.0 c.requires in
    (search rules, (search rules, (search rules, ((omega (arith, can.0, c.in_ok-owners.owners.ok.0, c.in_ok-owners.rows.ok.0), omega (arith, can.1, c.in_ok-owners.rows.ok.0)), (can.2, can.3)))))

pub remains-requires-send-T : goal.remains-requires-send-T
remains-requires-send-T g c κs within = (search rules, (search rules, (search rules, have_own _ 0 _ c.gather.ensures.parts)))

pub returns-clause-balance : goal.returns-clause-balance
returns-clause-balance g c = IfOk-weaker c.remains.result
    (λ left. (weight : List ℕ → ℕ) → given_weight weight c.gather.new.owners.items ≡ got_weight weight c.gather.new.owners.items + sum_by (λ t. weight (g.T.Task.label_of t)) left.items)
    (λ left. SameLabels (flat_map given c.args.seats.items) (flat_map got c.args.seats.items ++ map g.T.Task.label_of left.items))
    (λ left balance. balances g.T.Task.label_of c.args.seats.items c.in_ok-owners.owners.items c.in_ok-owners.rows.items c.gather.new.owners.items left.items c.in_ok-owners.ensures.owners c.in_ok-owners.ensures.rows
    c.gather.ensures.given c.gather.ensures.got balance)
    c.remains.ensures.balance

pub returns-clause-ground : goal.returns-clause-ground
returns-clause-ground g c =
    let count : length c.gather.new.owners.items ≡ length c.in_ok-owners.owners.items = omega (arith, c.gather.ensures.count, c.gather.new.owners.ok.0, c.in_ok-owners.owners.ok.0) in
    IfOk-weaker c.remains.result
    (λ left. All (λ t. Some (g.T.Task.ground_of t) ≡ first_ground c.gather.new.owners.items) left.items)
    (λ left. All (λ t. All (λ s. seat_ground s ≡ Some (g.T.Task.ground_of t)) c.args.seats.items) left.items)
    (λ left all. grounds g.T.Task.ground_of c.args.seats.items c.in_ok-owners.owners.items c.gather.new.owners.items left.items c.requires c.in_ok-owners.ensures.owners count c.gather.ensures.parts all)
    c.remains.ensures.ground
