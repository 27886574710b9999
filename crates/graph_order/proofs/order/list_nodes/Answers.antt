use Rattle.std.proofs.Common.{◌+◌, List, refl, sym, subst, arith}
use Rattle.mine_model.proofs.ElementLemmas.{get-some}
use Rattle.graph_order.specs.declared.order.Turn.{Turn}
use Rattle.graph_order.specs.Levels.{AreTurns}
use Rattle.graph_order.proofs.OrderLemmas.{turn-more}
use Rattle.graph_order.proofs.order.list_nodes.Goals as goal

pub nodes-preserved : goal.nodes-preserved
nodes-preserved c =
    let nodes = c.args.graph.now.nodes in
    let (node, at) = get-some nodes c.nodes.node (omega arith) in
    subst (AreTurns nodes (c.nodes.node + 1)) (sym {A = List Turn} c.in_ok-push.ensures.items)
    (turn-more nodes c.nodes.node c.nodes.order.items (record { level = c.level_of.result; node = c.nodes.node }) node refl at (c.level_of.ensures node at) c.nodes.invariant)
