use Rattle.std.proofs.Common.{get_or, arith}
use Rattle.candidate_graph.specs.declared.edge.Edge.{Edge as Step}
use Rattle.graph_order.proofs.StepLemmas.{no-step, step-there, AreStepsOf, whole-expanded, steps-of, step-edge, steps-inside}
use Rattle.candidate_states.proofs.StateLemmas.{keeps-all, targets-stay, targets-of, made-more, grows-more}
use Rattle.candidate_states.proofs.making.make_targets.Goals as goal

pub edges_of-edges-requires : goal.edges_of-edges-requires
edges_of-edges-requires c = whole-expanded c.args.graph.now.nodes c.args.node c.requires.whole c.requires.node

pub make_state-requires-clause-node : goal.make_state-requires-clause-node
make_state-requires-clause-node c =
    let nodes = c.args.graph.now.nodes in
    let list = c.edges_of-edges.result.now in
    let step : Step = get_or list c.loop-edge.edge-index no-step in
    let are : AreStepsOf nodes c.args.node list = steps-of nodes c.args.node list c.requires.whole c.requires.node c.edges_of-edges.ensures in
    steps-inside nodes c.args.node list are c.requires.graph step (step-there list c.loop-edge.edge-index c.loop-edge-test.true)

pub make_state-requires-clause-targets : goal.make_state-requires-clause-targets
make_state-requires-clause-targets c =
    let nodes = c.args.graph.now.nodes in
    let list = c.edges_of-edges.result.now in
    let step : Step = get_or list c.loop-edge.edge-index no-step in
    let are : AreStepsOf nodes c.args.node list = steps-of nodes c.args.node list c.requires.whole c.requires.node c.edges_of-edges.ensures in
    targets-stay nodes c.args.made.now.items c.loop-edge.made.items step.next c.loop-edge.invariant.keeps
    (c.requires.targets step.rank step (step-edge nodes c.args.node list are step (step-there list c.loop-edge.edge-index c.loop-edge-test.true)))

pub loop-edge-preserved : goal.loop-edge-preserved
loop-edge-preserved c = record {
  grows = grows-more c.args.registry.now c.loop-edge.registry c.make_state.new.registry c.loop-edge.invariant.grows c.make_state.ensures.grows;
  registry = c.make_state.ensures.registry;
  long = c.make_state.ensures.long;
  keeps = keeps-all c.args.made.now.items c.loop-edge.made.items c.make_state.new.made.items c.loop-edge.invariant.keeps c.make_state.ensures.keeps;
  states = c.make_state.ensures.states;
  targets = made-more c.edges_of-edges.result.now c.loop-edge.edge-index c.loop-edge.made.items c.make_state.new.made.items c.in_ok-make_state.field-0 c.make_state.ensures.keeps
      c.loop-edge.invariant.targets c.in_ok-make_state.ensures.made;
}

pub returns-clause-targets : goal.returns-clause-targets
returns-clause-targets c =
    let nodes = c.args.graph.now.nodes in
    let list = c.edges_of-edges.result.now in
    let are : AreStepsOf nodes c.args.node list = steps-of nodes c.args.node list c.requires.whole c.requires.node c.edges_of-edges.ensures in
    targets-of nodes c.args.node list are c.loop-edge.made.items (λ k step below at. c.loop-edge.invariant.targets k step (omega (arith, below)) at)
