use Rattle.std.proofs.Common.{◌≡◌, ◌<◌, ◌∙◌, inl, inr, true, List, length, get_or, sym, subst, arith}
use Rattle.std.specs.List.{Contains}
use Rattle.candidate_graph.specs.declared.edge.Edge.{Edge as Step}
use Rattle.candidate_states.specs.declared.stages.Stage.{Stage}
use Rattle.candidate_states.specs.Stages.{asked_in, IsTarget}
use Rattle.graph_order.proofs.OrderLemmas.{edge-inside}
use Rattle.graph_order.proofs.StepLemmas.{no-step, step-there}
use Rattle.candidate_states.proofs.AskLemmas.{asked-keeps, asked-others, keeps-through, step-target, done-more, done-closed}
use Rattle.candidate_states.proofs.asking.ask_at.Goals as goal

pub ask-requires : goal.ask-requires
ask-requires c =
    let nodes = c.args.graph.now.nodes in
    let steps : List Step = c.steps_of-steps.result.now in
    let step : Step = get_or steps c.loop-step.step-index no-step in
    let held : Contains steps step = step-there steps c.loop-step.step-index c.loop-step-test.true in
    let below : step.next < length nodes = edge-inside nodes c.requires.graph c.args.node step.rank step ((c.steps_of-steps.ensures.exact step).0 held).0 in
    omega (arith, below, c.loop-step.invariant.long)

pub loop-step-preserved : goal.loop-step-preserved
loop-step-preserved c =
    let nodes = c.args.graph.now.nodes in
    let steps : List Step = c.steps_of-steps.result.now in
    let exact = c.steps_of-steps.ensures.exact in
    let index = c.loop-step.step-index in
    let step : Step = get_or steps index no-step in
    let held : Contains steps step = step-there steps index c.loop-step-test.true in
    let before = c.loop-step.asked.items in
    let now = c.ask.new.asked.items in
    let keeps = asked-keeps before now step.next c.behind.result c.ask.ensures in
    record {
      long = c.ask.ensures.long ∙ c.loop-step.invariant.long;
      keeps = keeps-through c.args.asked.now.items before now c.loop-step.invariant.keeps keeps;
      others = λ other flag is. elim (asked-others before now step.next c.behind.result c.ask.ensures other flag is) [
        | inl was ↦ c.loop-step.invariant.others other flag was
        | inr same ↦ inr (subst (IsTarget nodes c.args.node) (sym same) (step-target nodes c.args.node c.args.pivot c.args.stage steps exact step held))
      ];
      done = done-more nodes c.args.node c.args.pivot c.args.stage steps exact index before now keeps c.loop-step.invariant.done
          (subst (λ (s : Stage). asked_in now step.next s ≡ true) c.behind.ensures c.ask.ensures.here);
    }

pub returns-clause-closed : goal.returns-clause-closed
returns-clause-closed c = λ is.
    done-closed c.args.graph.now.nodes c.args.node c.args.pivot c.args.stage c.steps_of-steps.result.now c.steps_of-steps.ensures.exact c.loop-step.step-index c.loop-step.asked.items
    (omega (arith, c.loop-step-test.false)) c.loop-step.invariant.done
