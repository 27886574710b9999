use Rattle.std.proofs.Common.{get_or}
use Rattle.graph_order.specs.declared.order.Turn.{Turn}
use Rattle.graph_order.proofs.StepLemmas.{no-turn, turn-there, turns-more, turn-targets, turns-all}
use Rattle.candidate_pairs.specs.Sums.{IsSummed}
use Rattle.candidate_pairs.proofs.paths.sum_all.Goals as goal

pub sum_node-requires-clause-node : goal.sum_node-requires-clause-node
sum_node-requires-clause-node c =
    let turn : Turn = get_or c.args.order.now c.loop-turn.turn-index no-turn in
    c.requires.order.inside turn (turn-there c.args.order.now c.loop-turn.turn-index c.loop-turn-test.true)

pub sum_node-requires-clause-behind : goal.sum_node-requires-clause-behind
sum_node-requires-clause-behind c =
    let nodes = c.args.graph.now.nodes in
    turn-targets nodes c.args.order.now c.requires.order (IsSummed nodes c.loop-turn.sums.items) c.loop-turn.turn-index c.loop-turn.invariant.summed c.loop-turn-test.true

pub loop-turn-preserved : goal.loop-turn-preserved
loop-turn-preserved c =
    let nodes = c.args.graph.now.nodes in
    record {
      long = c.sum_node.ensures.long;
      summed = turns-more c.args.order.now (IsSummed nodes c.loop-turn.sums.items) (IsSummed nodes c.sum_node.new.sums.items) c.loop-turn.turn-index
          c.sum_node.ensures.keeps c.loop-turn.invariant.summed c.sum_node.ensures.summed;
    }

pub returns-clause-summed : goal.returns-clause-summed
returns-clause-summed c =
    let nodes = c.args.graph.now.nodes in
    turns-all nodes c.args.order.now c.requires.order (IsSummed nodes c.loop-turn.sums.items) c.loop-turn.turn-index c.loop-turn.invariant.summed c.loop-turn-test.false
