-- One step of a set of states at a move.
use Rattle.std.specs.Prelude.{◌≡◌, ℕ, ◌<◌, ◌⊎◌, ◌↔◌, IsTrue, List, AllPairs, Contains}
use Rattle.state_bits.specs.Members.{Has}
use Rattle.state_bits.specs.Neighbours.{IsNeighbour}
use Rattle.walk_memo.specs.declared.action.Action.{Action}
use Rattle.walk_memo.specs.Moves.{MoveSets}

-- the set behind the step: the states in the rows of the set that are entered in silence
abbrev pub IsAfter : List ℕ → MoveSets → ℕ → ℕ → Type 0
IsAfter rows move set next = (q : ℕ) → Has next q ↔ (IsNeighbour rows set q × Has move.silent q)

-- the marks of an action: more can be written behind it; so with what is needed; it can end
pub record IsMarked (move : MoveSets) (action : Action) : Type 0 where
  pub more : IsTrue action.more ↔ Has move.more action.state
  pub unseen : IsTrue action.unseen ↔ Has move.unseen action.state
  pub ends : IsTrue action.ends ↔ Has move.ends action.state

-- the actions of a step: of each state in the rows of the set into which an edge writes, one, by state
pub record AreActions (rows : List ℕ) (move : MoveSets) (set : ℕ) (actions : List Action) : Type 0 where
  pub rising : AllPairs (λ one other. one.state < other.state) actions
  pub exact : (action : Action) → Contains actions action
      ↔ (IsNeighbour rows set action.state × Has move.writes action.state × IsMarked move action)

-- the same, where edges lead into these states
pub record AreWritten (targets : ℕ) (move : MoveSets) (actions : List Action) : Type 0 where
  pub rising : AllPairs (λ one other. one.state < other.state) actions
  pub exact : (action : Action) → Contains actions action
      ↔ (Has targets action.state × Has move.writes action.state × IsMarked move action)

-- the set with the state
abbrev pub IsJoin : ℕ → ℕ → ℕ → Type 0
IsJoin set state joined = (q : ℕ) → Has joined q ↔ (Has set q ⊎ (q ≡ state))
