-- Deterministic automata over ranks, and how they are written as lists of numbers. The code is this program's
-- own format.
use Rattle.std.specs.Prelude.{◌≡◌, ℕ, Bool, if◌then◌else◌, IsTrue, List, [], ◌∷◌, length, Some, slice_get, Contains}
use Rattle.std.specs.List.{flat_map}
pub use Rattle.automaton_model.specs.declared.state.Edge.{Edge}
use Rattle.automaton_model.specs.declared.state.State.{State}

-- a state: whether a list may end there, and its edges
pub record StateValue : Type 0 where
  pub accepts : Bool
  pub edges : List Edge

-- a state as the program holds it
abbrev pub state_of : State → StateValue
state_of held = record { accepts = held.accepts; edges = held.edges.items }

-- along edges from the state with this number the list leads to a state where it may end
abbrev pub Accepts : List StateValue → ℕ → List ℕ → Type 0
Accepts states from [] = (state : StateValue) × (slice_get states from ≡ Some state) × IsTrue state.accepts
Accepts states from (rank ∷ ranks) =
    (state : StateValue) × (edge : Edge) × (slice_get states from ≡ Some state) × Contains state.edges edge
    × (edge.rank ≡ rank) × Accepts states edge.to ranks

-- the rank, and the number of the state
abbrev pub edge_code : Edge → List ℕ
edge_code edge = edge.rank ∷ edge.to ∷ []

-- 1 where a list may end, else 0; the number of edges; the edges
abbrev pub state_code : StateValue → List ℕ
state_code state =
    (if state.accepts then 1 else 0) ∷ length state.edges ∷ flat_map edge_code state.edges

-- the states, one behind another
abbrev pub code_of : List StateValue → List ℕ
code_of states = flat_map state_code states
