use Rattle.std.proofs.Common.{◌+◌, List, get_or, take, refl, sym, subst}
use Rattle.std.specs.List.{AllZip}
use Rattle.automaton_model.specs.declared.state.Edge.{Edge}
use Rattle.candidate_graph.specs.declared.edge.Edge.{Edge as Step}
use Rattle.candidate_states.specs.Kept.{IsMoved}
use Rattle.graph_order.proofs.StepLemmas.{no-step, step-there}
use Rattle.candidate_states.proofs.StateLemmas.{moved-more}
use Rattle.candidate_states.proofs.making.write_edges.Goals as goal

pub known-requires-clause-within : goal.known-requires-clause-within
known-requires-clause-within c =
    let step : Step = get_or c.args.steps.now c.loop-step.step-index no-step in
    c.requires.within step (step-there c.args.steps.now c.loop-step.step-index c.loop-step-test.true)

pub known-requires-clause-made : goal.known-requires-clause-made
known-requires-clause-made c =
    let step : Step = get_or c.args.steps.now c.loop-step.step-index no-step in
    c.requires.made step (step-there c.args.steps.now c.loop-step.step-index c.loop-step-test.true)

pub loop-step-preserved : goal.loop-step-preserved
loop-step-preserved c =
    let step : Step = get_or c.args.steps.now c.loop-step.step-index no-step in
    subst (AllZip (IsMoved c.args.made.now) (take (c.loop-step.step-index + 1) c.args.steps.now)) (sym {A = List Edge} c.in_ok-push.ensures.items)
    (moved-more c.args.made.now c.args.steps.now c.loop-step.step-index c.loop-step.edges.items (record { rank = step.rank; to = c.known.result }) c.loop-step-test.true c.loop-step.invariant
    (record { rank = refl; to = c.known.ensures }))
