use Rattle.std.proofs.Common.{get_or}
use Rattle.graph_order.specs.declared.order.Turn.{Turn}
use Rattle.graph_order.proofs.StepLemmas.{no-turn, turn-there, turns-more, turn-targets, turns-all}
use Rattle.candidate_states.specs.Kept.{HasTargets}
use Rattle.candidate_states.proofs.StateLemmas.{targets-stay, grows-more}
use Rattle.candidate_states.proofs.making.make_all.Goals as goal

pub make_targets-requires-clause-node : goal.make_targets-requires-clause-node
make_targets-requires-clause-node c =
    let turn : Turn = get_or c.args.order.now c.loop-turn.turn-index no-turn in
    c.requires.order.inside turn (turn-there c.args.order.now c.loop-turn.turn-index c.loop-turn-test.true)

pub make_targets-requires-clause-targets : goal.make_targets-requires-clause-targets
make_targets-requires-clause-targets c =
    let nodes = c.args.graph.now.nodes in
    turn-targets nodes c.args.order.now c.requires.order (HasTargets nodes c.loop-turn.made.items) c.loop-turn.turn-index c.loop-turn.invariant.targets c.loop-turn-test.true

pub loop-turn-preserved : goal.loop-turn-preserved
loop-turn-preserved c =
    let nodes = c.args.graph.now.nodes in
    let before = c.loop-turn.made.items in
    let now = c.make_targets.new.made.items in
    record {
      grows = grows-more c.args.registry.now c.loop-turn.registry c.make_targets.new.registry c.loop-turn.invariant.grows c.make_targets.ensures.grows;
      registry = c.make_targets.ensures.registry;
      long = c.make_targets.ensures.long;
      states = c.make_targets.ensures.states;
      targets = turns-more c.args.order.now (HasTargets nodes before) (HasTargets nodes now) c.loop-turn.turn-index
          (λ node has. targets-stay nodes before now node c.make_targets.ensures.keeps has) c.loop-turn.invariant.targets c.in_ok-make_targets.ensures.targets;
    }

pub returns-clause-targets : goal.returns-clause-targets
returns-clause-targets c =
    let nodes = c.args.graph.now.nodes in
    turns-all nodes c.args.order.now c.requires.order (HasTargets nodes c.loop-turn.made.items) c.loop-turn.turn-index c.loop-turn.invariant.targets c.loop-turn-test.false
