use Rattle.std.proofs.Common.{◌∙◌, get_or}
use Rattle.candidate_graph.specs.declared.edge.Edge.{Edge}
use Rattle.graph_order.proofs.StepLemmas.{no-step, step-there}
use Rattle.candidate_pairs.proofs.SumLemmas.{told-more}
use Rattle.candidate_pairs.proofs.sums.sum_of.Goals as goal

pub sum_behind-requires : goal.sum_behind-requires
sum_behind-requires c =
    let edge : Edge = get_or c.args.edges.now c.loop-edge.edge-index no-step in
    c.requires edge (step-there c.args.edges.now c.loop-edge.edge-index c.loop-edge-test.true)

pub loop-edge-preserved : goal.loop-edge-preserved
loop-edge-preserved c =
    c.saturating_add-sum.ensures
    ∙ told-more c.args.sums.now c.args.edges.now c.loop-edge.edge-index c.loop-edge.sum c.sum_behind.result no-step c.loop-edge-test.true c.loop-edge.invariant c.sum_behind.ensures
