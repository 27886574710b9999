use Rattle.std.proofs.Common.{rules}
use Rattle.std.proofs.lemmas.List.Sorted.{IsNonDecreasingBy-from_sort_by_key}
use Rattle.graph_order.specs.declared.order.Turn.{Turn}
use Rattle.graph_order.proofs.OrderLemmas.{in-order}
use Rattle.graph_order.proofs.order.order_nodes.Goals as goal

pub returns : goal.returns
returns c =
    in-order c.args.graph.now.nodes c.requires c.list_nodes.new.order.items c.sort_unstable_by_key.new.self.items c.in_ok-list_nodes.ensures
    c.sort_unstable_by_key.ensures.permutation
    (IsNonDecreasingBy-from_sort_by_key (λ (turn : Turn). turn.level) _ c.sort_unstable_by_key.ensures.sorted (λ a r q k. search rules))
