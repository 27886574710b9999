use Rattle.std.proofs.Common.{◌≡◌, ◌++◌, ◌∷◌, map, take, length}
use Rattle.std.specs.Prelude.{if◌then◌else◌}
use Rattle.std.specs.List.{flat_map}
use Rattle.automaton_model.specs.Automata.{edge_code}
use Rattle.automaton_model.specs.Walks.{renumbered_edge}
use Rattle.automaton_model.proofs.coding.push_state.Given as goal

abbrev pub invariant-edges : goal.invariant-edges
invariant-edges l = record {
  edges : l.edge-items ≡ l.state.edges.items;
  code : l.code.items ≡ l.fn.code.items ++ (if l.state.accepts then 1 else 0) ∷ length l.state.edges.items
      ∷ flat_map edge_code (map (renumbered_edge l.visited.keys) (take l.edge-index l.edge-items));
}
