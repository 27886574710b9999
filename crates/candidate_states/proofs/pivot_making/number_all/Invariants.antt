use Rattle.std.proofs.Common.{◌≡◌, ◌++◌, ◌<◌, ℕ, Some, List, length}
use Rattle.std.specs.List.{slice_get}
use Rattle.automaton_model.specs.Automata.{StateValue}
use Rattle.automaton_model.specs.Registry.{IsRegistry}
use Rattle.graph_order.specs.declared.order.Turn.{Turn}
use Rattle.candidate_states.specs.Stages.{AreNumbered, IsSettled}
use Rattle.candidate_states.proofs.pivot_making.number_all.Given as goal

-- the states of the nodes so far were made
abbrev pub invariant-loop-turn : goal.invariant-loop-turn
invariant-loop-turn l = record {
  grows : (more : List StateValue) × (l.registry ≡ l.initial.registry ++ more);
  registry : IsRegistry l.registry;
  long : length l.numbers.items ≡ length l.graph.nodes;
  states : AreNumbered l.graph.nodes l.pivot l.registry l.numbers.items;
  settled : (k : ℕ) (turn : Turn) → k < l.turn-index → slice_get l.order k ≡ Some turn → IsSettled l.graph.nodes l.pivot l.asked l.numbers.items turn.node;
}
