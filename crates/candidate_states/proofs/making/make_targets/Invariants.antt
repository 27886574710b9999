use Rattle.std.proofs.Common.{◌≡◌, ◌++◌, ◌<◌, ℕ, Some, List, length}
use Rattle.std.specs.List.{slice_get}
use Rattle.automaton_model.specs.Automata.{StateValue}
use Rattle.automaton_model.specs.Registry.{IsRegistry}
use Rattle.candidate_graph.specs.declared.edge.Edge.{Edge}
use Rattle.candidate_states.specs.Kept.{state_in, AreStates, Keeps}
use Rattle.candidate_states.proofs.making.make_targets.Given as goal

-- the states to which the edges so far lead were made
abbrev pub invariant-loop-edge : goal.invariant-loop-edge
invariant-loop-edge l = record {
  grows : (more : List StateValue) × (l.registry ≡ l.initial.registry ++ more);
  registry : IsRegistry l.registry;
  long : length l.made.items ≡ length l.graph.nodes;
  keeps : Keeps l.initial.made.items l.made.items;
  states : AreStates l.graph.nodes l.registry l.made.items;
  targets : (k : ℕ) (edge : Edge) → k < l.edge-index → slice_get l.edges k ≡ Some edge
      → (number : ℕ) × (state_in l.made.items edge.next edge.ends ≡ Some number);
}
