-- What is kept while the states of nodes are made.
use Rattle.std.specs.Prelude.{◌≡◌, ℕ, ◌<◌, ◌⊎◌, Bool, IsTrue, if◌then◌else◌, Option, Some, None, List, [], ◌∷◌, length, slice_index_or}
use Rattle.automaton_model.specs.declared.state.Edge.{Edge}
use Rattle.automaton_model.specs.Automata.{StateValue}
use Rattle.automaton_model.specs.Languages.{IsRightLanguageOf}
use Rattle.candidate_graph.specs.declared.edge.Edge.{Edge as Step}
use Rattle.candidate_graph.specs.Graphs.{Node}
use Rattle.candidate_graph.specs.Paths.{HasEdge, Accepts}
use Rattle.candidate_states.specs.declared.states.Made.{Made}

-- none was made
abbrev pub nothing : Made
nothing = record { going = None; ending = None }

abbrev pub state_by : Made → Bool → Option ℕ
state_by made ends = if ends then made.ending else made.going

-- the number of the state of the node, for prefixes that may end there or not
abbrev pub state_in : List Made → ℕ → Bool → Option ℕ
state_in made node ends = state_by (slice_index_or made node nothing) ends

-- the state of one node is entered, and no other
pub record IsEntered (before now : List Made) (node : ℕ) (ends : Bool) (state : ℕ) : Type 0 where
  pub long : length now ≡ length before
  pub here : state_in now node ends ≡ Some state
  pub others : (other : ℕ) (flag : Bool) → ((other ≡ node) × (flag ≡ ends))
      ⊎ (state_in now other flag ≡ state_in before other flag)

-- what follows a prefix that leads to the node: nothing where it may end there, and the ranks of each path
-- from there
abbrev pub Follows : List Node → ℕ → Bool → List ℕ → Type 0
Follows nodes node ends [] = IsTrue ends
Follows nodes node ends (rank ∷ ranks) = Accepts nodes node (rank ∷ ranks)

-- the state with this number accepts just that
pub record IsStateAt (nodes : List Node) (states : List StateValue) (node : ℕ) (ends : Bool) (number : ℕ)
    : Type 0 where
  pub inside : number < length states
  pub language : IsRightLanguageOf (Follows nodes node ends) states number

-- what was made is right
abbrev pub AreStates : List Node → List StateValue → List Made → Type 0
AreStates nodes states made =
    (node : ℕ) (ends : Bool) (number : ℕ) → state_in made node ends ≡ Some number
    → IsStateAt nodes states node ends number

-- what was made stays
abbrev pub Keeps : List Made → List Made → Type 0
Keeps before now =
    (node : ℕ) (ends : Bool) (number : ℕ) → state_in before node ends ≡ Some number
    → state_in now node ends ≡ Some number

-- the states to which the edges of the node lead were made
abbrev pub HasTargets : List Node → List Made → ℕ → Type 0
HasTargets nodes made node =
    (rank : ℕ) (edge : Step) → HasEdge nodes node rank edge
    → (number : ℕ) × (state_in made edge.next edge.ends ≡ Some number)

-- the edge with the state to which it leads
pub record IsMoved (made : List Made) (step : Step) (edge : Edge) : Type 0 where
  pub rank : edge.rank ≡ step.rank
  pub to : state_in made step.next step.ends ≡ Some edge.to
