-- States of a registry for sets of lists.
use Rattle.std.specs.Prelude.{◌≡◌, ℕ, ◌<◌, ◌↔◌, IsTrue, List, [], ◌∷◌, length, AllPairs, Contains}
use Rattle.automaton_model.specs.Automata.{Edge, StateValue, Accepts}

-- the set is the right language of the state with this number: what is accepted from there
abbrev pub IsRightLanguageOf : (List ℕ → Type 0) → List StateValue → ℕ → Type 0
IsRightLanguageOf IsMember states number = (ranks : List ℕ) → Accepts states number ranks ↔ IsMember ranks

-- the edge leads to a state of the registry for what follows its rank in the members, and some member has it
pub record IsEdgeOf (IsMember : List ℕ → Type 0) (states : List StateValue) (edge : Edge) : Type 0 where
  pub inside : edge.to < length states
  pub more : List ℕ
  pub begins : IsMember (edge.rank ∷ more)
  pub node : IsRightLanguageOf (λ ranks. IsMember (edge.rank ∷ ranks)) states edge.to

-- the state for the set, made of states that the registry has: whether the empty list is a member, and an
-- edge for each rank that begins a member
pub record IsStateOf (IsMember : List ℕ → Type 0) (states : List StateValue) (state : StateValue)
    : Type 0 where
  pub accepts : IsTrue state.accepts ↔ IsMember []
  pub rising : AllPairs (λ (low : Edge) (high : Edge). low.rank < high.rank) state.edges
  pub edge : (edge : Edge) → Contains state.edges edge → IsEdgeOf IsMember states edge
  pub all : (rank : ℕ) (ranks : List ℕ) → IsMember (rank ∷ ranks)
      → (edge : Edge) × Contains state.edges edge × (edge.rank ≡ rank)
