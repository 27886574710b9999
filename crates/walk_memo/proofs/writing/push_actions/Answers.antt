use Rattle.std.proofs.Common.{◌≡◌, ℕ, refl, ◌∙◌, ◌*◌, ◌<◌, ◌↔◌, map, rules, arith}
use Rattle.std.specs.List.{Contains}
use Rattle.std.proofs.lemmas.List.Elements.{All-contains}
use Rattle.walk_memo.specs.declared.action.Action.{Action}
use Rattle.walk_memo.specs.Moves.{move_sets}
use Rattle.walk_memo.proofs.ActionLemmas.{IsWriter, action_of, test_is, written-none, written-more, written-all, next_writer}
use Rattle.walk_memo.proofs.writing.push_actions.Given.{Over}
use Rattle.walk_memo.proofs.writing.push_actions.Goals as goal
use Rattle.walk_memo.proofs.writing.push_actions.Goals.{After-iter-state-items, In-Some}

listed : (g : Over) (c : After-iter-state-items g) → (q : ℕ) → Contains c.iter-state-items.result q ↔ IsWriter c.args.targets.now (move_sets {W = g.row.W} c.args.movement.now) q
listed g c q = (
  (λ held. (c.intersect_with.ensures q).0 ((c.iter-state-items.ensures.members q).0 held)),
  (λ is. (c.iter-state-items.ensures.members q).1 ((c.intersect_with.ensures q).1 is)),
)

inside : (g : Over) (c : In-Some g) → c.in-Some.state < 64 * g.row.W
inside g c =
    let there = (goal.at.In-Some g c).After-iter-state-items in
    All-contains (λ q. q < 64 * g.row.W) c.iter-state-items.result c.in-Some.state c.iter-state-items.ensures.within
    ((listed g there c.in-Some.state).1 (next_writer c.in-Some.state c.next.new.self c.loop-state.invariant c.in-Some.ensures.steps))

pub loop-state-init : goal.loop-state-init
loop-state-init g c =
    let there = (goal.at.loop-state-init g c).After-iter-state-items in
    rw c.into_iter-state-iterator.ensures.into_iter_gives
    (written-none c.args.targets.now (move_sets {W = g.row.W} c.args.movement.now) c.iter-state-items.result c.args.actions.now.items c.iter-state-items.ensures.rising (listed g there))

pub has-more-requires : goal.has-more-requires
has-more-requires g c =
    let below = inside g (goal.at.has-more-requires g c).In-Some in
    let width = c.requires.width in
    search rules

pub has-unseen-requires : goal.has-unseen-requires
has-unseen-requires g c =
    let below = inside g (goal.at.has-unseen-requires g c).In-Some in
    let width = c.requires.width in
    search rules

pub has-ends-requires : goal.has-ends-requires
has-ends-requires g c =
    let below = inside g (goal.at.has-ends-requires g c).In-Some in
    let width = c.requires.width in
    search rules

pub overflow_cast-state : goal.overflow_cast-state
overflow_cast-state g c =
    let below = inside g (goal.at.overflow_cast-state g c).In-Some in
    let width = c.requires.width in
    omega arith

pub loop-state-preserved : goal.loop-state-preserved
loop-state-preserved g c =
    let move = move_sets {W = g.row.W} c.args.movement.now in
    let action : Action = record { state = c.in-Some.state; more = c.has-more.result; unseen = c.has-unseen.result; ends = c.has-ends.result } in
    let same : action ≡ action_of move c.in-Some.state =
    rw (test_is c.has-more.result move.more c.in-Some.state c.has-more.ensures, test_is c.has-unseen.result move.unseen c.in-Some.state c.has-unseen.ensures, test_is c.has-ends.result move.ends c.in-Some.state c.has-ends.ensures) refl in
    written-more c.args.targets.now move c.loop-state.yielded c.loop-state.state-iterator c.next.new.self c.args.actions.now.items c.loop-state.actions.items c.push.new.self.items c.in-Some.state
    action c.loop-state.invariant c.in-Some.ensures.steps c.in_ok-push.ensures.items same

pub returns-in_err-push-clause-grows : goal.returns-in_err-push-clause-grows
returns-in_err-push-clause-grows g c =
    (map (action_of (move_sets {W = g.row.W} c.args.movement.now)) c.loop-state.yielded, c.in_err-push.ensures.items ∙ c.loop-state.invariant.written)

pub returns-clause-grows : goal.returns-clause-grows
returns-clause-grows g c = (map (action_of (move_sets {W = g.row.W} c.args.movement.now)) c.loop-state.yielded, c.loop-state.invariant.written)

pub returns-clause-written : goal.returns-clause-written
returns-clause-written g c =
    written-all c.args.targets.now (move_sets {W = g.row.W} c.args.movement.now) c.loop-state.yielded c.loop-state.state-iterator c.args.actions.now.items c.loop-state.actions.items
    c.loop-state.invariant c.in-None.ensures.steps.0
