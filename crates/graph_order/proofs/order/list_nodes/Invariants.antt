use Rattle.graph_order.specs.Levels.{AreTurns}
use Rattle.graph_order.proofs.order.list_nodes.Given as goal

-- the nodes so far have their turns
abbrev pub invariant-nodes : goal.invariant-nodes
invariant-nodes l = AreTurns l.graph.nodes l.node l.order.items
