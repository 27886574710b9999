use Rattle.std.proofs.Common.{get_or}
use Rattle.graph_order.specs.declared.order.Turn.{Turn}
use Rattle.graph_order.proofs.StepLemmas.{no-turn, turn-there, turns-more, turn-targets, turns-all}
use Rattle.candidate_states.specs.Stages.{IsSettled}
use Rattle.candidate_states.proofs.StateLemmas.{grows-more}
use Rattle.candidate_states.proofs.LinkLemmas.{all-settled-keep}
use Rattle.candidate_states.proofs.pivot_making.number_all.Goals as goal

pub number_node-requires-clause-node : goal.number_node-requires-clause-node
number_node-requires-clause-node c =
    let turn : Turn = get_or c.args.order.now c.loop-turn.turn-index no-turn in
    c.requires.order.inside turn (turn-there c.args.order.now c.loop-turn.turn-index c.loop-turn-test.true)

pub number_node-requires-clause-closed : goal.number_node-requires-clause-closed
number_node-requires-clause-closed c =
    let turn : Turn = get_or c.args.order.now c.loop-turn.turn-index no-turn in
    c.requires.closed turn.node (c.requires.order.inside turn (turn-there c.args.order.now c.loop-turn.turn-index c.loop-turn-test.true))

pub number_node-requires-clause-targets : goal.number_node-requires-clause-targets
number_node-requires-clause-targets c =
    let nodes = c.args.graph.now.nodes in
    turn-targets nodes c.args.order.now c.requires.order (IsSettled nodes c.args.pivot c.args.asked.now c.loop-turn.numbers.items) c.loop-turn.turn-index
    c.loop-turn.invariant.settled c.loop-turn-test.true

pub loop-turn-preserved : goal.loop-turn-preserved
loop-turn-preserved c =
    let nodes = c.args.graph.now.nodes in
    let asked = c.args.asked.now in
    let before = c.loop-turn.numbers.items in
    let now = c.number_node.new.numbers.items in
    record {
      grows = grows-more c.args.registry.now c.loop-turn.registry c.number_node.new.registry c.loop-turn.invariant.grows c.number_node.ensures.grows;
      registry = c.number_node.ensures.registry;
      long = c.number_node.ensures.long;
      states = c.number_node.ensures.states;
      settled = turns-more c.args.order.now (IsSettled nodes c.args.pivot asked before) (IsSettled nodes c.args.pivot asked now) c.loop-turn.turn-index
          (λ node settled. all-settled-keep nodes c.args.pivot asked before now node c.number_node.ensures.keeps settled) c.loop-turn.invariant.settled
          c.in_ok-number_node.ensures.settled;
    }

pub returns-clause-settled : goal.returns-clause-settled
returns-clause-settled c =
    let nodes = c.args.graph.now.nodes in
    turns-all nodes c.args.order.now c.requires.order (IsSettled nodes c.args.pivot c.args.asked.now c.loop-turn.numbers.items) c.loop-turn.turn-index
    c.loop-turn.invariant.settled c.loop-turn-test.false
