-- What a place does, by the class of its item and the triple behind it.
use Rattle.std.specs.Prelude.{ℕ, ◌≤◌, ◌<◌, ◌↔◌, Bool, true, false, List, slice_get, Some, ◌≡◌}
use Rattle.state_bits.specs.Members.{Has}
use Rattle.sequence_grids.specs.declared.table.Words.{Words}
use Rattle.sequence_grids.specs.Tables.{ClassSets, TripleSets, continuing}
use Rattle.walk_memo.specs.Moves.{MoveSets, move_sets}
use Rattle.place_records.specs.declared.twin.Twin.{Twin}

-- the moves for paths that have not seen what is needed, and for those that have
pub record TwinSets : Type 0 where
  pub early : MoveSets
  pub late : MoveSets

-- the same, whatever the width of the sets
abbrev pub twin_sets : {W : ℕ} → Twin W → TwinSets
twin_sets twin = record { early = move_sets twin.early; late = move_sets twin.late }

abbrev pub move_in : Bool → TwinSets → MoveSets
move_in false twin = twin.early
move_in true twin = twin.late

-- nothing is done
abbrev pub dead_move : MoveSets
dead_move = record { silent = 0; writes = 0; more = 0; unseen = 0; ends = 0 }

abbrev pub dead_twin : TwinSets
dead_twin = record { early = dead_move; late = dead_move }

-- what an item of the class does with the state where the places behind it have the triple, for paths that
-- go on so
pub record IsMoveOf (needed goes : Bool) (class : ClassSets) (behind : TripleSets) (move : MoveSets) (k : ℕ)
    : Type 0 where
  pub silent : Has move.silent k ↔ (Has class.silent k × Has (continuing behind goes) k)
  pub writes : Has move.writes k ↔ (Has class.writes k × Has behind.seen k)
  pub more : Has move.more k ↔ (Has move.writes k × Has (continuing behind needed) k)
  pub unseen : Has move.unseen k ↔ (Has move.writes k × Has behind.unseen k)
  pub ends : Has move.ends k ↔ (Has move.writes k × Has behind.ends k)

-- the same for both, of each state below the number into which edges lead
pub record IsTwinOf (states : ℕ) (needed : Bool) (class : ClassSets) (behind : TripleSets) (twin : TwinSets)
    : Type 0 where
  pub early_is : (k : ℕ) → 1 ≤ k → k < states → IsMoveOf needed false class behind twin.early k
  pub late_is : (k : ℕ) → 1 ≤ k → k < states → IsMoveOf needed true class behind twin.late k

-- the states below the number into which edges lead
abbrev pub AreTargets : ℕ → ℕ → Type 0
AreTargets states set = (k : ℕ) → Has set k ↔ ((1 ≤ k) × (k < states))

-- the words of the states from which something can be written, and what is needed was seen or is written, too
abbrev pub words_for : Words → Bool → List ℕ
words_for words true = words.more.now
words_for words false = words.unseen.now

-- the twin with the number is that of a class and a triple with these numbers
abbrev pub IsTwinAt : ℕ → Bool → List ClassSets → List TripleSets → List TwinSets → ℕ → ℕ → ℕ → Type 0
IsTwinAt states needed classes triples twins class behind number =
    (c : ClassSets) × (t : TripleSets) × (twin : TwinSets) × (slice_get classes class ≡ Some c)
    × (slice_get triples behind ≡ Some t) × (slice_get twins number ≡ Some twin)
    × IsTwinOf states needed c t twin
