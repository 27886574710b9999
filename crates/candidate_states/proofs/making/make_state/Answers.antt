use Rattle.std.proofs.Common.{◌≡◌, ◌<◌, ℕ, Some, List, length, sym, subst, arith}
use Rattle.std.specs.List.{AllZip}
use Rattle.automaton_model.specs.Automata.{StateValue}
use Rattle.candidate_states.specs.declared.states.Made.{Made}
use Rattle.candidate_states.specs.Kept.{state_in, IsMoved, AreStates}
use Rattle.graph_order.proofs.StepLemmas.{AreStepsOf, whole-expanded, steps-of, steps-inside}
use Rattle.candidate_states.proofs.StateLemmas.{steps-made, states-stay, entered-states, state-kept, state-right}
use Rattle.candidate_states.proofs.making.make_state.Goals as goal

pub edges_of-requires : goal.edges_of-requires
edges_of-requires c = whole-expanded c.args.graph.now.nodes c.args.node c.requires.whole c.requires.node

pub write_edges-requires-clause-within : goal.write_edges-requires-clause-within
write_edges-requires-clause-within c step held =
    let nodes = c.args.graph.now.nodes in
    let are : AreStepsOf nodes c.args.node c.edges_of.result.now = steps-of nodes c.args.node c.edges_of.result.now c.requires.whole c.requires.node c.edges_of.ensures in
    let below : step.next < length nodes = steps-inside nodes c.args.node c.edges_of.result.now are c.requires.graph step held in
    subst (λ (l : List Made). step.next < length l) (sym c.as_slice-2.ensures.value) (omega (arith, below, c.requires.long))

pub write_edges-requires-clause-made : goal.write_edges-requires-clause-made
write_edges-requires-clause-made c step held =
    let nodes = c.args.graph.now.nodes in
    let are : AreStepsOf nodes c.args.node c.edges_of.result.now = steps-of nodes c.args.node c.edges_of.result.now c.requires.whole c.requires.node c.edges_of.ensures in
    subst (λ (l : List Made). (state : ℕ) × (state_in l step.next step.ends ≡ Some state)) (sym c.as_slice-2.ensures.value)
    (steps-made nodes c.args.node c.edges_of.result.now are c.args.made.now.items c.requires.targets step held)

pub number-requires : goal.number-requires
number-requires c =
    let nodes = c.args.graph.now.nodes in
    let (node, at, known) = steps-of nodes c.args.node c.edges_of.result.now c.requires.whole c.requires.node c.edges_of.ensures in
    let moved : AllZip (IsMoved c.args.made.now.items) c.edges_of.result.now c.write_edges.new.edges.items =
    subst (λ (l : List Made). AllZip (IsMoved l) c.edges_of.result.now c.write_edges.new.edges.items) c.as_slice-2.ensures.value c.in_ok-write_edges.ensures in
    state-kept nodes c.args.registry.now c.args.made.now.items c.requires.states c.args.node node c.edges_of.result.now at known c.args.ends c.write_edges.new.edges.items moved
    c.requires.graph c.requires.trim

pub returns-clause-states : goal.returns-clause-states
returns-clause-states c =
    let nodes = c.args.graph.now.nodes in
    let made = c.args.made.now.items in
    let (node, at, known) = steps-of nodes c.args.node c.edges_of.result.now c.requires.whole c.requires.node c.edges_of.ensures in
    let moved : AllZip (IsMoved made) c.edges_of.result.now c.write_edges.new.edges.items =
    subst (λ (l : List Made). AllZip (IsMoved l) c.edges_of.result.now c.write_edges.new.edges.items) c.as_slice-2.ensures.value c.in_ok-write_edges.ensures in
    let (more, grown, added) = c.number.ensures.grows in
    let are : AreStates nodes c.number.new.self made =
    subst (λ (l : List StateValue). AreStates nodes l made) (sym grown) (states-stay nodes c.args.registry.now more made c.requires.registry c.requires.states) in
    entered-states made c.enter.new.made.items c.args.node c.args.ends c.in_ok-number.number c.enter.ensures nodes c.number.new.self are
    (state-right nodes c.number.new.self made are c.args.node node c.edges_of.result.now at known c.args.ends c.write_edges.new.edges.items moved c.in_ok-number.number
    c.in_ok-number.ensures.number)
