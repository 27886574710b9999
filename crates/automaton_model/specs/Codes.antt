-- The minimal automaton of a set of lists of ranks: its states are the different rests of the set, as in the
-- theorem of Myhill and Nerode. They are numbered as a depth-first walk by rising rank comes to them.
use Rattle.std.specs.Prelude.{◌≡◌, ℕ, ◌<◌, ◌⊎◌, ◌↔◌, IsTrue, List, [], ◌∷◌, ◌++◌, Some, slice_get, AllPairs, Contains}
use Rattle.std.specs.List.{AllZip}
use Rattle.automaton_model.specs.Automata.{Edge, StateValue, code_of}
use Rattle.mine_model.specs.Lists.{IsEarlier}

-- the list begins a member of the set; the empty one is where each walk begins, even if there is no member
abbrev pub IsPrefixIn : (List ℕ → Type 0) → List ℕ → Type 0
IsPrefixIn IsMember prefix = (prefix ≡ []) ⊎ ((more : List ℕ) × IsMember (prefix ++ more))

-- the rests of the set after both prefixes are equal, which is Nerode's equivalence: what makes a member of
-- the one makes one of the other
abbrev pub AreNerodeEquivalent : (List ℕ → Type 0) → List ℕ → List ℕ → Type 0
AreNerodeEquivalent IsMember first second =
    (more : List ℕ) → IsMember (first ++ more) ↔ IsMember (second ++ more)

-- A depth-first walk by rising rank goes over what begins a member in its order: rank by rank, a proper
-- prefix first. At this prefix it comes to a rest that it has not met before.
pub record IsFirstVisit (IsMember : List ℕ → Type 0) (prefix : List ℕ) : Type 0 where
  pub begins : IsPrefixIn IsMember prefix
  pub new : (earlier : List ℕ) → IsEarlier earlier prefix → IsPrefixIn IsMember earlier
      → AreNerodeEquivalent IsMember earlier prefix → ⊥

-- from the rest after the prefix the edge leads to the rest after one rank more, by the number of the state
-- that has this rest
pub record Leads (IsMember : List ℕ → Type 0) (visits : List (List ℕ)) (prefix : List ℕ) (edge : Edge)
    : Type 0 where
  pub more : List ℕ
  pub begins : IsMember (prefix ++ edge.rank ∷ more)
  pub first : List ℕ
  pub numbered : slice_get visits edge.to ≡ Some first
  pub same : AreNerodeEquivalent IsMember first (prefix ++ edge.rank ∷ [])

-- the state is that of the rest after the prefix, which holds the empty list or not; its edges go by rising
-- rank
pub record IsStateAfter (IsMember : List ℕ → Type 0) (visits : List (List ℕ)) (prefix : List ℕ)
    (state : StateValue) : Type 0 where
  pub accepts : IsTrue state.accepts ↔ IsMember prefix
  pub rising : AllPairs (λ (low : Edge) (high : Edge). low.rank < high.rank) state.edges
  pub exact : (edge : Edge) → Contains state.edges edge ↔ Leads IsMember visits prefix edge

-- The states are those of the minimal automaton of the set, in the order of their first visits: what begins a
-- member has the rest of one of these visits.
pub record IsMinimalAutomaton (IsMember : List ℕ → Type 0) (states : List StateValue) : Type 0 where
  pub visits : List (List ℕ)
  pub rising : AllPairs IsEarlier visits
  pub first : (visit : List ℕ) → Contains visits visit → IsFirstVisit IsMember visit
  pub all : (prefix : List ℕ) → IsPrefixIn IsMember prefix
      → (visit : List ℕ) × Contains visits visit × AreNerodeEquivalent IsMember visit prefix
  pub state : AllZip (IsStateAfter IsMember visits) visits states

-- the code of the set
abbrev pub IsCodeOf : (List ℕ → Type 0) → List ℕ → Type 0
IsCodeOf IsMember code =
    (states : List StateValue) × IsMinimalAutomaton IsMember states × (code ≡ code_of states)
