-- The states of automata, those of one behind those of another.
use Rattle.std.specs.Prelude.{◌≡◌, ℕ, ◌+◌, ◌≤◌, ◌<◌, ◌↔◌, List, [], ◌∷◌, ◌++◌, length, map, slice_range, All}
use Rattle.automaton_model.specs.declared.groups.Group.{Group}
use Rattle.automaton_model.specs.declared.state.Edge.{Edge}
use Rattle.automaton_model.specs.Automata.{StateValue, Accepts}
use Rattle.automaton_model.specs.Groups.{LieIn}
use Rattle.group_search.specs.declared.loads.LoadedState.{LoadedState}
use Rattle.group_search.specs.declared.decoded.Head.{Head}

-- the state of a head
abbrev pub state_in : List Edge → Head → StateValue
state_in edges head = record { accepts = head.accepts; edges = slice_range edges head.from head.end }

abbrev pub states_in : List Head → List Edge → List StateValue
states_in heads edges = map (state_in edges) heads

-- the edges of each head are there
abbrev pub AreHeld : List Head → List Edge → Type 0
AreHeld heads edges = All (λ (head : Head). (head.from ≤ head.end) × (head.end ≤ length edges)) heads

-- the edges of pairs of a rank and a number, which counts from the base on
abbrev pub edges_in : ℕ → List ℕ → List Edge
edges_in base [] = []
edges_in base (rank ∷ []) = []
edges_in base (rank ∷ to ∷ pairs) = (record { rank = rank; to = to + base }) ∷ edges_in base pairs

-- the state with numbers that count from the base on
abbrev pub shifted : ℕ → StateValue → StateValue
shifted base state = record {
  accepts = state.accepts;
  edges = map (λ (edge : Edge). record { rank = edge.rank; to = edge.to + base }) state.edges;
}

-- the states stand behind those that there were
pub record IsAdded (base : ℕ) (more : List StateValue) (heads : List Head) (edges : List Edge)
    (all_heads : List Head) (all_edges : List Edge) : Type 0 where
  pub held : AreHeld all_heads all_edges
  pub states : states_in all_heads all_edges ≡ states_in heads edges ++ map (shifted base) more

-- the group's lists are accepted from the load's state, and both weigh the same
pub record IsRoot (states : List StateValue) (load : LoadedState) (group : Group) : Type 0 where
  pub there : load.state < length states
  pub same : (list : List ℕ) → Accepts states load.state list ↔ LieIn list group.automaton
  pub weight : load.weight ≡ group.count
