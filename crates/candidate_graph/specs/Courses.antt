-- What the paths of one sequence go over, and where they stand.
use Rattle.std.specs.Prelude.{◌≡◌, ℕ, ◌+◌, ◌^◌, ◌<◌, ◌⊎◌, Bool, List, length, All, AllPairs, slice_index}
use Rattle.state_bits.specs.Members.{Has}
use Rattle.walk_memo.specs.Moves.{MoveSets}
use Rattle.walk_places.specs.declared.places.Record.{Record}
use Rattle.place_walk.specs.declared.stand.Stand.{Stand}
use Rattle.place_walk.specs.declared.visit.Visit.{Visit}
use Rattle.place_walk.specs.Courses.{Course, Holds}
use Rattle.place_walk.specs.Visits.{IsVisit}
use Rattle.place_walk.specs.Groups.{IsMarked}
use Rattle.stand_sums.specs.Writings.{Ranks, IsReadable}

-- the rows of all states, the records by place, and the moves of paths that have seen what is needed or not
pub record Courses : Type 0 where
  pub rows : List ℕ
  pub places : List Record
  pub moves : Bool → List MoveSets

-- what such paths go over
abbrev pub course_in : Courses → Bool → Course
course_in courses seen =
    record { rows = courses.rows; moves = courses.moves seen; places = courses.places }

-- by place, then by state
abbrev pub IsLower : Stand → Stand → Type 0
IsLower one other =
    (one.place < other.place) ⊎ ((one.place ≡ other.place) × (one.state < other.state))

-- Each stand is there once, in order, so equal sets of them are equal lists; and each can be gone on from.
pub record AreStandsOn (course : Course) (stands : List Stand) : Type 0 where
  pub marked : IsMarked stands
  pub rising : AllPairs IsLower stands
  pub states : All (λ stand. stand.state < length course.rows) stands
  pub places : All (λ stand. stand.place < length course.places) stands

-- Walks can be made on the course, and again from where they lead: numbers of moves and states are known,
-- nothing is written at the last place, and of all that is written the ranks may be asked for.
pub record IsGround (course : Course) (ranks : Ranks) (CanAsk : ℕ → ℕ → Type 0) (end : ℕ) : Type 0 where
  pub few : length course.places < 2 ^ 32
  pub moves : All (λ entry. entry.of < length course.moves) course.places
  pub rows : (from state : ℕ) → Has (slice_index course.rows from) state → state < length course.rows
  pub last : (place : ℕ) (entry : Record) (move : MoveSets) → place + 1 ≡ length course.places
      → Holds course place entry move → (state : ℕ) → Has move.writes state → ⊥
  pub readable : (stands : List Stand) (visit : Visit)
      → IsVisit course stands visit.place visit.kind visit.action → IsReadable ranks CanAsk end visit
