-- The search for rows: what groups weigh behind a prefix.
use Rattle.std.specs.Prelude.{◌≡◌, ℕ, ◌+◌, ◌⊎◌, Some, slice_get, Contains, List, [], ◌∷◌, ◌++◌}
use Rattle.automaton_model.specs.Automata.{Edge, StateValue, Accepts, code_of}

-- some member of the set that has the code begins with the ranks
abbrev pub BeginIn : List ℕ → List ℕ → Type 0
BeginIn prefix code =
    (states : List StateValue) × (code ≡ code_of states) × (more : List ℕ) × Accepts states 0 (prefix ++ more)

-- groups that stand at one state of a registry, and what they weigh
pub record Load : Type 0 where
  pub state : ℕ
  pub weight : ℕ

-- n is the sum of the weights of the loads at states that have the property
abbrev pub Weigh : (ℕ → Type 0) → List Load → ℕ → Type 0
Weigh Has [] n = n ≡ 0
Weigh Has (load ∷ loads) n =
    (Has load.state × ((rest : ℕ) × (n ≡ load.weight + rest) × Weigh Has loads rest))
    ⊎ ((Has load.state → ⊥) × Weigh Has loads n)

-- the edge leaves the state with this number by the rank
abbrev pub LeavesBy : List StateValue → ℕ → ℕ → Edge → Type 0
LeavesBy states from rank edge =
    (state : StateValue) × (slice_get states from ≡ Some state) × Contains state.edges edge
    × (edge.rank ≡ rank)

-- the loads that have an edge by the rank go along it, the others are left behind
abbrev pub AreMoved : List StateValue → ℕ → List Load → List Load → Type 0
AreMoved states rank [] moved = moved ≡ []
AreMoved states rank (load ∷ loads) moved =
    ((edge : Edge) × LeavesBy states load.state rank edge × ((others : List Load)
    × (moved ≡ (record { state = edge.to; weight = load.weight }) ∷ others)
    × AreMoved states rank loads others))
    ⊎ (((edge : Edge) → LeavesBy states load.state rank edge → ⊥) × AreMoved states rank loads moved)
