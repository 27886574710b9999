-- The automata that can be searched.
use Rattle.std.specs.Prelude.{◌≡◌, ℕ, ◌≤◌, ◌<◌, List, length, All, AllPairs, Contains}
use Rattle.automaton_model.specs.declared.state.Edge.{Edge}
use Rattle.automaton_model.specs.Automata.{StateValue, Accepts, code_of}
use Rattle.automaton_model.specs.Searches.{Load}

-- the state's edges go by rising rank, each to a state from which some list is accepted
pub record IsTrimState (states : List StateValue) (state : StateValue) : Type 0 where
  pub rising : AllPairs (λ (low : Edge) (high : Edge). low.rank < high.rank) state.edges
  pub alive : (edge : Edge) → Contains state.edges edge → (ranks : List ℕ) × Accepts states edge.to ranks

-- a deterministic automaton without edges that lead nowhere
abbrev pub IsTrim : List StateValue → Type 0
IsTrim states = (state : StateValue) → Contains states state → IsTrimState states state

-- the list is no longer than the most, and has ranks of so many items
pub record IsRankList (count most : ℕ) (list : List ℕ) : Type 0 where
  pub short : length list ≤ most
  pub ranks : All (λ rank. (1 ≤ rank) × (rank ≤ count)) list

-- so are all lists that are accepted from the state
abbrev pub IsFinite : List StateValue → ℕ → ℕ → ℕ → Type 0
IsFinite states count most state = (list : List ℕ) → Accepts states state list → IsRankList count most list

-- and from those of the loads
abbrev pub AreFinite : List StateValue → ℕ → ℕ → List Load → Type 0
AreFinite states count most loads =
    (load : Load) → Contains loads load → IsFinite states count most load.state

-- the code is that of a trim automaton of such lists
pub record IsSearched (count most : ℕ) (code : List ℕ) : Type 0 where
  pub states : List StateValue
  pub coded : code ≡ code_of states
  pub some : 0 < length states
  pub trim : IsTrim states
  pub finite : IsFinite states count most 0
