use Rattle.std.proofs.Common.{arith, refl}
use Rattle.fst_compile.proofs.TransducerLemmas.{IsFilledSoFar-none, IsFilledSoFar-more, IsRow-filled, LeadTo-filled, next_member, enters_at}
use Rattle.fst_compile.proofs.rowing.fill.Goals as goal

pub loop-state-init : goal.loop-state-init
loop-state-init c =
    rw (c.into_iter-state-iterator.ensures.into_iter_gives, c.clear.ensures.items)
    (IsFilledSoFar-none c.args.labels.now c.args.row.now c.iter-state-items.result c.iter-state-items.ensures.rising c.iter-state-items.ensures.members)

pub overflow_sub-label : goal.overflow_sub-label
overflow_sub-label c =
    let member = next_member c.in-Some.state c.next.new.self c.loop-state.invariant c.in-Some.ensures.steps in
    (c.requires c.in-Some.state member).0

pub bounds-labels-state : goal.bounds-labels-state
bounds-labels-state c =
    let member = next_member c.in-Some.state c.next.new.self c.loop-state.invariant c.in-Some.ensures.steps in
    omega (arith, (c.requires c.in-Some.state member).0, (c.requires c.in-Some.state member).1)

pub loop-state-preserved : goal.loop-state-preserved
loop-state-preserved c =
    let member = next_member c.in-Some.state c.next.new.self c.loop-state.invariant c.in-Some.ensures.steps in
    let (some, inside) = c.requires c.in-Some.state member in
    rw c.in_ok-push.ensures.items
    (IsFilledSoFar-more c.args.labels.now c.args.row.now c.loop-state.edges.items c.loop-state.yielded c.loop-state.state-iterator c.next.new.self
    c.in-Some.state _ c.loop-state.invariant c.in-Some.ensures.steps refl (enters_at c.args.labels.now c.in-Some.state _ some inside))

pub returns-clause-row : goal.returns-clause-row
returns-clause-row c =
    IsRow-filled c.args.labels.now c.args.row.now c.loop-state.edges.items c.loop-state.yielded c.loop-state.state-iterator c.loop-state.invariant c.in-None.ensures.steps.0

pub returns-clause-targets : goal.returns-clause-targets
returns-clause-targets c =
    LeadTo-filled c.args.labels.now c.args.row.now c.loop-state.edges.items c.loop-state.yielded c.loop-state.state-iterator c.loop-state.invariant c.in-None.ensures.steps.0
