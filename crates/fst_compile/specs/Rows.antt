-- Edges between states while a transducer is built: for each state the set of states that it leads to.
use Rattle.std.specs.Prelude.{◌≡◌, ℕ, ◌⊎◌, ◌↔◌, List, length, slice_index, Contains}
use Rattle.state_bits.specs.Members.{Has}

abbrev pub HasEdge : List ℕ → ℕ → ℕ → Type 0
HasEdge rows from to = Has (slice_index rows from) to

-- the edges after are those before and these
pub record Adds (before after : List ℕ) (Added : ℕ → ℕ → Type 0) : Type 0 where
  pub long : length after ≡ length before
  pub edges : (from to : ℕ) → HasEdge after from to ↔ (HasEdge before from to ⊎ Added from to)

-- the set has the members of the list
abbrev pub IsSetOf : ℕ → List ℕ → Type 0
IsSetOf set members = (k : ℕ) → Has set k ↔ Contains members k
