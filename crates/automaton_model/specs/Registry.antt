-- States that are kept once each, as minimal automata are built from their ends on (Revuz; Daciuk and
-- others).
use Rattle.std.specs.Prelude.{◌≡◌, ◌≢◌, ℕ, ◌<◌, ◌↔◌, List, Some, slice_get, AllPairs, Contains}
use Rattle.automaton_model.specs.Automata.{Edge, StateValue, Accepts}

-- the states accept the same lists
abbrev pub AcceptTheSame : List StateValue → ℕ → ℕ → Type 0
AcceptTheSame states first second =
    (ranks : List ℕ) → Accepts states first ranks ↔ Accepts states second ranks

-- the state's edges go by rising rank, each to an earlier state of the registry from which some list is
-- accepted
pub record IsKeptState (states : List StateValue) (number : ℕ) (state : StateValue) : Type 0 where
  pub rising : AllPairs (λ (low : Edge) (high : Edge). low.rank < high.rank) state.edges
  pub back : (edge : Edge) → Contains state.edges edge → edge.to < number
  pub alive : (edge : Edge) → Contains state.edges edge → (ranks : List ℕ) × Accepts states edge.to ranks

-- each state may be kept where it stands, and no two are equal
pub record IsRegistry (states : List StateValue) : Type 0 where
  pub kept : (number : ℕ) (state : StateValue) → slice_get states number ≡ Some state
      → IsKeptState states number state
  pub once : AllPairs (λ (first : StateValue) second. first ≢ second) states
