use Rattle.std.proofs.Common.{◌∙◌, arith}
use Rattle.std.proofs.lemmas.List.{get_or_default}
use Rattle.state_bits.proofs.NeighbourLemmas.{AreNeighboursSoFar-none, AreNeighboursSoFar-more, next_neighbour}
use Rattle.state_bits.proofs.rows.neighbours.Goals as goal

pub loop-state-init : goal.loop-state-init
loop-state-init g c =
    rw (c.new-found.ensures, c.into_iter-state-iterator.ensures.into_iter_gives)
    (AreNeighboursSoFar-none c.args.rows.now c.args.states.now c.iter-state-items.result c.iter-state-items.ensures.members)

pub offset_bounds-rows-state : goal.offset_bounds-rows-state
offset_bounds-rows-state g c =
    omega (arith, c.requires.within c.in-Some.state (next_neighbour c.in-Some.state c.next.new.self c.loop-state.invariant c.in-Some.ensures.steps))

pub bounds-rows-state : goal.bounds-rows-state
bounds-rows-state g c = c.requires.within c.in-Some.state (next_neighbour c.in-Some.state c.next.new.self c.loop-state.invariant c.in-Some.ensures.steps)

pub loop-state-preserved : goal.loop-state-preserved
loop-state-preserved g c =
    let inside = c.requires.within c.in-Some.state (next_neighbour c.in-Some.state c.next.new.self c.loop-state.invariant c.in-Some.ensures.steps) in
    AreNeighboursSoFar-more c.args.rows.now c.args.states.now c.loop-state.found c.union_with.new.self c.loop-state.yielded c.loop-state.state-iterator c.next.new.self
    c.in-Some.state c.index-rows-state.result c.loop-state.invariant c.in-Some.ensures.steps
    (c.index-rows-state.is ∙ get_or_default c.args.rows.now c.in-Some.state c.index-rows-state.result 0 inside) c.union_with.ensures
