use Rattle.std.proofs.Common.{◌≡◌, ◌<◌, ℕ, length}
use Rattle.graph_order.specs.Orders.{HasTurnBefore}
use Rattle.candidate_states.specs.Stages.{KeepsAsked, IsClosed}
use Rattle.candidate_states.proofs.asking.ask_all.Given as goal

-- what follows behind the nodes whose turns were is asked for
abbrev pub invariant-loop-index : goal.invariant-loop-index
invariant-loop-index l = record {
  long : length l.asked.items ≡ length l.graph.nodes;
  keeps : KeepsAsked l.initial.asked.items l.asked.items;
  closed : (node : ℕ) → node < length l.graph.nodes → (HasTurnBefore l.order l.index node → ⊥) → IsClosed l.graph.nodes l.pivot l.asked.items node;
}
