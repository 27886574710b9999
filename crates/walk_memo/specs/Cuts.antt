-- Walks of sets of states along moves, and walks whose sets lack states that write no more.
use Rattle.std.specs.Prelude.{◌≡◌, ℕ, ◌+◌, ◌⊎◌, ◌↔◌, List, [], ◌∷◌, Some, drop, slice_index, slice_get}
use Rattle.state_bits.specs.Members.{Has}
use Rattle.walk_memo.specs.Moves.{MoveSets}
use Rattle.walk_memo.specs.Steps.{IsAfter}

-- from the state something can still be written along the moves
abbrev pub CanWrite : List ℕ → List MoveSets → ℕ → Type 0
CanWrite rows [] from = ⊥
CanWrite rows (move ∷ rest) from =
    (to : ℕ) × Has (slice_index rows from) to
    × (Has move.writes to ⊎ (Has move.silent to × CanWrite rows rest to))

-- the sets agree on the states from which something can still be written
abbrev pub AgreeOn : List ℕ → List MoveSets → ℕ → ℕ → Type 0
AgreeOn rows moves set other = (q : ℕ) → CanWrite rows moves q → Has set q ↔ Has other q

-- the sets before each of the moves, and the one behind the last
abbrev pub AreSetsAlong : List ℕ → List MoveSets → List ℕ → Type 0
AreSetsAlong rows moves sets =
    (k : ℕ) (move : MoveSets) → slice_get moves k ≡ Some move
    → IsAfter rows move (slice_index sets k) (slice_index sets (k + 1))

-- the move, but that it may lack silent states from which nothing more can be written along the rest
pub record IsCut (rows : List ℕ) (rest : List MoveSets) (move cut : MoveSets) : Type 0 where
  pub writes : cut.writes ≡ move.writes
  pub more : cut.more ≡ move.more
  pub unseen : cut.unseen ≡ move.unseen
  pub ends : cut.ends ≡ move.ends
  pub fewer : (q : ℕ) → Has cut.silent q → Has move.silent q
  pub enough : (q : ℕ) → Has move.silent q → CanWrite rows rest q → Has cut.silent q

-- so for each of the moves
abbrev pub AreCuts : List ℕ → List MoveSets → List MoveSets → Type 0
AreCuts rows moves cuts =
    (k : ℕ) (move cut : MoveSets) → slice_get moves k ≡ Some move → slice_get cuts k ≡ Some cut
    → IsCut rows (drop (k + 1) moves) move cut
