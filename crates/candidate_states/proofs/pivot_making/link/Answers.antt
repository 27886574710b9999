use Rattle.std.proofs.Common.{◌≡◌, ◌∙◌, ◌+◌, Vec, Global, List, get_or, take, sym, ap, subst}
use Rattle.automaton_model.specs.declared.state.Edge.{Edge}
use Rattle.candidate_graph.specs.declared.edge.Edge.{Edge as Step}
use Rattle.candidate_states.specs.declared.stages.Stage.{Stage}
use Rattle.candidate_states.specs.Stages.{number_in, stage_behind, AreLinked}
use Rattle.graph_order.proofs.StepLemmas.{no-step, step-there}
use Rattle.candidate_states.proofs.LinkLemmas.{linked-push, linked-skip}
use Rattle.candidate_states.proofs.pivot_making.link.Goals.{in-Some+in_ok-push, in_default}
use Rattle.candidate_states.proofs.pivot_making.link.Goals as goal

pub number_of-requires : goal.number_of-requires
number_of-requires c =
    let step : Step = get_or c.args.steps.now c.loop-step.step-index no-step in
    c.requires.within step (step-there c.args.steps.now c.loop-step.step-index c.loop-step-test.true)

pub loop-step-preserved : goal.loop-step-preserved
loop-step-preserved c =
    let numbers = c.args.numbers.now in
    let steps = c.args.steps.now in
    let index = c.loop-step.step-index in
    let step : Step = get_or steps index no-step in
    let found : c.number_of.result ≡ number_in numbers step.next (stage_behind c.args.pivot c.args.stage step) =
    c.number_of.ensures ∙ ap (λ (s : Stage). number_in numbers step.next s) c.behind.ensures in
    elim c.match-number_of.branch [
      | in-Some+in_ok-push w ↦ subst (λ (v : Vec Edge Global). AreLinked numbers c.args.pivot c.args.stage (take (index + 1) steps) v.items) (sym w.edges-is)
          (subst (AreLinked numbers c.args.pivot c.args.stage (take (index + 1) steps)) (sym {A = List Edge} w.in_ok-push.ensures.items)
          (linked-push numbers c.args.pivot c.args.stage steps index c.loop-step.edges.items c.loop-step-test.true c.loop-step.invariant w.in-Some.to c.requires.rising (sym found ∙ w.in-Some.is)))
      | in_default w ↦ subst (λ (v : Vec Edge Global). AreLinked numbers c.args.pivot c.args.stage (take (index + 1) steps) v.items) (sym w.edges-is)
          (linked-skip numbers c.args.pivot c.args.stage steps index c.loop-step.edges.items c.loop-step-test.true c.loop-step.invariant (sym found ∙ w.in_default.is))
    ]
