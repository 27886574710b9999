-- Rows of states: by the number of a state, a set of those to which it leads.
use Rattle.std.specs.Prelude.{ℕ, ◌↔◌, List, slice_index}
use Rattle.state_bits.specs.Members.{Has}

-- the state stands in the row of one of these states
abbrev pub IsNeighbour : List ℕ → ℕ → ℕ → Type 0
IsNeighbour rows states to = (from : ℕ) × Has (slice_index rows from) to × Has states from

-- the states that stand in the rows of these states
abbrev pub AreNeighbours : List ℕ → ℕ → ℕ → Type 0
AreNeighbours rows states found = (to : ℕ) → Has found to ↔ IsNeighbour rows states to
