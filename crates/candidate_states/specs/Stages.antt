-- What is kept while the states of nodes are made for the candidates with one pivot.
use Rattle.std.specs.Prelude.{◌≡◌, ℕ, ◌≤◌, ◌<◌, ◌==◌, ◌⊎◌, Bool, true, false, IsTrue, if◌then◌else◌, Option, Some, None, List, [], ◌∷◌, length, AllPairs, Contains, slice_index_or}
use Rattle.automaton_model.specs.declared.state.Edge.{Edge}
use Rattle.automaton_model.specs.Automata.{StateValue}
use Rattle.automaton_model.specs.Languages.{IsRightLanguageOf}
use Rattle.candidate_graph.specs.declared.edge.Edge.{Edge as Step}
use Rattle.candidate_graph.specs.Graphs.{Node}
use Rattle.candidate_graph.specs.Paths.{HasEdge}
use Rattle.candidate_states.specs.declared.stages.Stage.{Stage}
use Rattle.candidate_states.specs.declared.stages.Stage.TheVariants.{Before, Going, Ending}
use Rattle.candidate_states.specs.declared.asked.Asked.{Asked}
use Rattle.candidate_states.specs.declared.numbers.Numbers.{Numbers}

-- ---- stages

-- behind the pivot
abbrev pub stage_met : Bool → Stage
stage_met ends = if ends then Ending else Going

-- behind an edge
abbrev pub stage_behind : ℕ → Stage → Step → Stage
stage_behind pivot Before step = if step.rank == pivot then stage_met step.ends else Before
stage_behind pivot Going step = stage_met step.ends
stage_behind pivot Ending step = stage_met step.ends

abbrev pub can_end : Stage → Bool
can_end Before = false
can_end Going = false
can_end Ending = true

-- what completes a prefix of the stage that leads to the node to a candidate with the pivot
abbrev pub Completes : List Node → ℕ → ℕ → Stage → List ℕ → Type 0
Completes nodes pivot node stage [] = IsTrue (can_end stage)
Completes nodes pivot node stage (rank ∷ rest) =
    (step : Step) × HasEdge nodes node rank step × (rank ≤ pivot)
    × Completes nodes pivot step.next (stage_behind pivot stage step) rest

-- ---- what is asked for

abbrev pub unasked : Asked
unasked = record { before = false; going = false; ending = false }

abbrev pub asked_by : Asked → Stage → Bool
asked_by asked Before = asked.before
asked_by asked Going = asked.going
asked_by asked Ending = asked.ending

-- whether the node is asked for at the stage
abbrev pub asked_in : List Asked → ℕ → Stage → Bool
asked_in asked node stage = asked_by (slice_index_or asked node unasked) stage

-- one node is asked for at one stage as well
pub record IsAsked (before now : List Asked) (node : ℕ) (stage : Stage) : Type 0 where
  pub long : length now ≡ length before
  pub here : asked_in now node stage ≡ true
  pub others : (other : ℕ) (flag : Stage) → ((other ≡ node) × (flag ≡ stage))
      ⊎ (asked_in now other flag ≡ asked_in before other flag)

-- what is asked for stays so
abbrev pub KeepsAsked : List Asked → List Asked → Type 0
KeepsAsked before now =
    (node : ℕ) (stage : Stage) → IsTrue (asked_in before node stage) → IsTrue (asked_in now node stage)

-- an edge leads from the one node to the other
abbrev pub IsTarget : List Node → ℕ → ℕ → Type 0
IsTarget nodes node other =
    (rank : ℕ) × (step : Step) × HasEdge nodes node rank step × (step.next ≡ other)

-- what follows behind the node at the stage is asked for
abbrev pub IsClosedAt : List Node → ℕ → List Asked → ℕ → Stage → Type 0
IsClosedAt nodes pivot asked node stage =
    (rank : ℕ) (step : Step) → HasEdge nodes node rank step → rank ≤ pivot
    → IsTrue (asked_in asked step.next (stage_behind pivot stage step))

-- so at each stage at which it is asked for
abbrev pub IsClosed : List Node → ℕ → List Asked → ℕ → Type 0
IsClosed nodes pivot asked node =
    (stage : Stage) → IsTrue (asked_in asked node stage) → IsClosedAt nodes pivot asked node stage

-- ---- the states

abbrev pub unnumbered : Numbers
unnumbered = record { before = None; going = None; ending = None }

abbrev pub number_by : Numbers → Stage → Option ℕ
number_by numbers Before = numbers.before
number_by numbers Going = numbers.going
number_by numbers Ending = numbers.ending

-- the number of the state of the node at the stage
abbrev pub number_in : List Numbers → ℕ → Stage → Option ℕ
number_in numbers node stage = number_by (slice_index_or numbers node unnumbered) stage

-- the state of one node at one stage is entered, and no other
pub record IsNumbered (before now : List Numbers) (node : ℕ) (stage : Stage) (number : ℕ) : Type 0 where
  pub long : length now ≡ length before
  pub here : number_in now node stage ≡ Some number
  pub others : (other : ℕ) (flag : Stage) → ((other ≡ node) × (flag ≡ stage))
      ⊎ (number_in now other flag ≡ number_in before other flag)

-- the state with this number accepts just what completes, which is something
pub record IsStageAt (nodes : List Node) (pivot : ℕ) (states : List StateValue) (node : ℕ) (stage : Stage)
    (number : ℕ) : Type 0 where
  pub inside : number < length states
  pub language : IsRightLanguageOf (Completes nodes pivot node stage) states number
  pub some : (list : List ℕ) × Completes nodes pivot node stage list

-- what has a number is right
abbrev pub AreNumbered : List Node → ℕ → List StateValue → List Numbers → Type 0
AreNumbered nodes pivot states numbers =
    (node : ℕ) (stage : Stage) (number : ℕ) → number_in numbers node stage ≡ Some number
    → IsStageAt nodes pivot states node stage number

-- what has none had none before
abbrev pub KeepsNumbers : List Numbers → List Numbers → Type 0
KeepsNumbers before now =
    (node : ℕ) (stage : Stage) → number_in now node stage ≡ None → number_in before node stage ≡ None

-- where the node has no state at the stage, nothing completes
abbrev pub IsSettledAt : List Node → ℕ → List Numbers → ℕ → Stage → Type 0
IsSettledAt nodes pivot numbers node stage =
    number_in numbers node stage ≡ None → (list : List ℕ) → Completes nodes pivot node stage list → ⊥

-- so at each stage at which it is asked for
abbrev pub IsSettled : List Node → ℕ → List Asked → List Numbers → ℕ → Type 0
IsSettled nodes pivot asked numbers node =
    (stage : Stage) → IsTrue (asked_in asked node stage) → IsSettledAt nodes pivot numbers node stage

-- an edge for each step that leads to a state, by rising rank
pub record AreLinked (numbers : List Numbers) (pivot : ℕ) (stage : Stage) (steps : List Step)
    (edges : List Edge) : Type 0 where
  pub rising : AllPairs (λ (low : Edge) (high : Edge). low.rank < high.rank) edges
  pub each : (edge : Edge) → Contains edges edge → (step : Step) × Contains steps step
      × (edge.rank ≡ step.rank)
      × (number_in numbers step.next (stage_behind pivot stage step) ≡ Some edge.to)
  pub all : (step : Step) (number : ℕ) → Contains steps step
      → number_in numbers step.next (stage_behind pivot stage step) ≡ Some number
      → Contains edges (record { rank = step.rank; to = number })
