-- States of a registry for a sequence's candidates.
use Rattle.std.specs.Prelude.{ℕ, ◌≤◌, ◌<◌, ◌⊎◌, IsTrue, List, length, Contains}
use Rattle.std.specs.List.{AllByRecursion}
use Rattle.automaton_model.specs.Automata.{StateValue}
use Rattle.automaton_model.specs.Languages.{IsRightLanguageOf}
use Rattle.candidate_graph.specs.declared.edge.Edge.{Edge}
use Rattle.candidate_graph.specs.Graphs.{Node}
use Rattle.candidate_graph.specs.Paths.{HasEdge, Accepts}

-- the graph is trim: each edge ends, or leads to a node from which something is accepted
abbrev pub IsTrim : List Node → Type 0
IsTrim nodes =
    (number rank : ℕ) (edge : Edge) → HasEdge nodes number rank edge
    → IsTrue edge.ends ⊎ ((ranks : List ℕ) × Accepts nodes edge.next ranks)

-- the state with this number accepts exactly the candidates, of which the empty list is none
pub record IsRootOf (nodes : List Node) (states : List StateValue) (root : ℕ) : Type 0 where
  pub inside : root < length states
  pub language : IsRightLanguageOf (Accepts nodes 0) states root

-- the greatest of the ranks is the pivot
pub record HasPivot (pivot : ℕ) (ranks : List ℕ) : Type 0 where
  pub most : AllByRecursion (λ rank. rank ≤ pivot) ranks
  pub held : Contains ranks pivot

-- the state with this number accepts exactly the candidates with the pivot
pub record IsPivotRootOf (nodes : List Node) (pivot : ℕ) (states : List StateValue) (root : ℕ) : Type 0 where
  pub inside : root < length states
  pub language : IsRightLanguageOf (λ ranks. Accepts nodes 0 ranks × HasPivot pivot ranks) states root
