-- What a walk goes over.
use Rattle.std.specs.Prelude.{◌≡◌, ℕ, Some, List, slice_get}
use Rattle.state_bits.specs.Members.{Has}
use Rattle.walk_memo.specs.Moves.{MoveSets}
use Rattle.walk_memo.specs.Memos.{MemoValue}
use Rattle.walk_places.specs.declared.places.Record.{Record}

-- the rows of all states, by state those to which edges lead; the moves, by number; and the records, by place
pub record Course : Type 0 where
  pub rows : List ℕ
  pub moves : List MoveSets
  pub places : List Record

-- rows and moves of a memo, and these places
abbrev pub course_of : MemoValue → List Record → Course
course_of memo places = record { rows = memo.rows; moves = memo.moves; places = places }

-- the place has this record, which names this move
pub record Holds (course : Course) (place : ℕ) (entry : Record) (move : MoveSets) : Type 0 where
  pub entry_is : slice_get course.places place ≡ Some entry
  pub move_is : slice_get course.moves entry.of ≡ Some move

-- nothing is entered in silence there
abbrev pub IsWall : Course → ℕ → Type 0
IsWall course place =
    (entry : Record) (move : MoveSets) → Holds course place entry move
    → (state : ℕ) → Has move.silent state → ⊥
