use Rattle.std.proofs.Common.{◌≡◌, ◌++◌, ◌<◌, ℕ, Some, List, length}
use Rattle.std.specs.List.{slice_get}
use Rattle.automaton_model.specs.Automata.{StateValue}
use Rattle.automaton_model.specs.Registry.{IsRegistry}
use Rattle.graph_order.specs.declared.order.Turn.{Turn}
use Rattle.candidate_states.specs.Kept.{AreStates, HasTargets}
use Rattle.candidate_states.proofs.making.make_all.Given as goal

-- the states to which edges of the nodes so far lead were made
abbrev pub invariant-loop-turn : goal.invariant-loop-turn
invariant-loop-turn l = record {
  grows : (more : List StateValue) × (l.registry ≡ l.initial.registry ++ more);
  registry : IsRegistry l.registry;
  long : length l.made.items ≡ length l.graph.nodes;
  states : AreStates l.graph.nodes l.registry l.made.items;
  targets : (k : ℕ) (turn : Turn) → k < l.turn-index → slice_get l.order k ≡ Some turn → HasTargets l.graph.nodes l.made.items turn.node;
}
