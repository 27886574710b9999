-- The depth-first walk over the states of a registry that numbers them.
use Rattle.std.specs.Prelude.{◌≡◌, ◌≢◌, ℕ, ◌<◌, ◌⊎◌, ◌==◌, false, List, [], ◌∷◌, ◌++◌, map, Some, slice_get, AllPairs, Contains}
use Rattle.std.specs.List.{AllZip, position_or_len}
use Rattle.automaton_model.specs.Automata.{Edge, StateValue}
use Rattle.mine_model.specs.Lists.{IsEarlier}

-- edges with these ranks lead from the one state to the other
abbrev pub Reaches : List StateValue → ℕ → List ℕ → ℕ → Type 0
Reaches states from [] to = from ≡ to
Reaches states from (rank ∷ ranks) to =
    (state : StateValue) × (edge : Edge) × (slice_get states from ≡ Some state) × Contains state.edges edge
    × (edge.rank ≡ rank) × Reaches states edge.to ranks to

-- a path of the walk: the ranks of its edges, and the state to which they lead
pub record Path : Type 0 where
  pub prefix : List ℕ
  pub state : ℕ

-- the prefixes part, and the first goes on with the lesser rank
pub record PartsBefore (first second : List ℕ) : Type 0 where
  pub common : List ℕ
  pub low : ℕ
  pub high : ℕ
  pub less : low < high
  pub left : List ℕ
  pub right : List ℕ
  pub first_is : first ≡ common ++ low ∷ left
  pub second_is : second ≡ common ++ high ∷ right

-- the path leads to a state that was visited
abbrev pub IsVisited : List Path → ℕ → Type 0
IsVisited visits state = (visit : Path) × Contains visits visit × (visit.state ≡ state)

-- a path that waits is followed by the ranks and leads on to the state
abbrev pub IsAheadOn : List StateValue → List Path → List ℕ → ℕ → Type 0
IsAheadOn states waiting prefix to =
    (path : Path) × (more : List ℕ) × Contains waiting path × (prefix ≡ path.prefix ++ more)
    × Reaches states path.state more to

-- The walk from the root: paths to the states that were visited, in their order, and the paths that wait, the
-- next one first. Each state that paths lead to was visited, or is ahead.
pub record IsWalk (states : List StateValue) (root : ℕ) (visits waiting : List Path) : Type 0 where
  pub order : AllPairs (λ (low : Path) (high : Path). IsEarlier low.prefix high.prefix) visits
  pub once : AllPairs (λ (one : Path) (other : Path). one.state ≢ other.state) visits
  pub ahead : (visit path : Path) → Contains visits visit → Contains waiting path
      → IsEarlier visit.prefix path.prefix
  pub part : AllPairs (λ (first : Path) (second : Path). PartsBefore first.prefix second.prefix) waiting
  pub visited : (visit : Path) → Contains visits visit → Reaches states root visit.prefix visit.state
  pub reached : (path : Path) → Contains waiting path → Reaches states root path.prefix path.state
  pub first : (visit : Path) (prefix : List ℕ) → Contains visits visit → IsEarlier prefix visit.prefix
      → Reaches states root prefix visit.state → ⊥
  pub all : (prefix : List ℕ) (to : ℕ) → Reaches states root prefix to
      → IsVisited visits to ⊎ IsAheadOn states waiting prefix to

-- the paths that go on from the path by one edge of its state
abbrev pub paths_from : Path → List Edge → List Path
paths_from path edges =
    map (λ (edge : Edge). record { prefix = path.prefix ++ edge.rank ∷ []; state = edge.to }) edges

-- the edge with the same rank, to the number of the state
pub record IsRenumberedEdge (visits : List Path) (edge : Edge) (new : Edge) : Type 0 where
  pub rank : new.rank ≡ edge.rank
  pub visit : Path
  pub numbered : slice_get visits new.to ≡ Some visit
  pub same : visit.state ≡ edge.to

-- the visited state, whose edges go by the numbers of the visits
pub record IsRenumbered (states : List StateValue) (visits : List Path) (visit : Path) (new : StateValue)
    : Type 0 where
  pub old : StateValue
  pub old_is : slice_get states visit.state ≡ Some old
  pub accepts : new.accepts ≡ old.accepts
  pub edges : AllZip (IsRenumberedEdge visits) old.edges new.edges

-- the states to which the paths lead
abbrev pub states_of : List Path → List ℕ
states_of paths = map (λ (path : Path). path.state) paths

-- a walk from the root visited these states, in this order, and these wait, the next one first
abbrev pub AreVisited : List StateValue → ℕ → List ℕ → List ℕ → Type 0
AreVisited states root visited waiting =
    (visits : List Path) × (stack : List Path) × IsWalk states root visits stack
    × (visited ≡ states_of visits) × (waiting ≡ states_of stack)

-- the place of a state among those that were visited
abbrev pub number_in : List ℕ → ℕ → ℕ
number_in visited state = position_or_len (λ other. state == other) visited

-- the edge with the place of its state
abbrev pub renumbered_edge : List ℕ → Edge → Edge
renumbered_edge visited edge = record { rank = edge.rank; to = number_in visited edge.to }

-- the state with the places of the states to which its edges lead
abbrev pub renumbered : List ℕ → StateValue → StateValue
renumbered visited state =
    record { accepts = state.accepts; edges = map (renumbered_edge visited) state.edges }

-- a state from which nothing is accepted
abbrev pub dead_state : StateValue
dead_state = record { accepts = false; edges = [] }
