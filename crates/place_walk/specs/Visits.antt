-- What the paths of a prefix write next.
use Rattle.std.specs.Prelude.{◌≡◌, ℕ, ◌+◌, ◌<◌, ◌⊎◌, ◌↔◌, IsTrue, Some, List, [], ◌∷◌, ◌++◌, AllPairs, Contains, slice_get, slice_index}
use Rattle.state_bits.specs.Members.{Has}
use Rattle.walk_memo.specs.declared.action.Action.{Action}
use Rattle.walk_memo.specs.Moves.{MoveSets}
use Rattle.walk_memo.specs.Steps.{IsMarked}
use Rattle.walk_places.specs.declared.places.Record.{Record}
use Rattle.place_walk.specs.declared.stand.Stand.{Stand}
use Rattle.place_walk.specs.declared.visit.Visit.{Visit}
use Rattle.place_walk.specs.Courses.{Course, Holds}
use Rattle.place_walk.specs.Stands.{IsAt}

-- A path from one of the stands writes next, and then is before this place: at the place before, whose item
-- is of the kind, an edge leads from a state where a path is to that of the action, and writes. The marks of
-- the action are those of its state there.
pub record IsVisit (course : Course) (stands : List Stand) (place kind : ℕ) (action : Action) : Type 0 where
  pub before : ℕ
  pub behind : place ≡ before + 1
  pub entry : Record
  pub move : MoveSets
  pub holds : Holds course before entry move
  pub kind_is : kind ≡ entry.kind
  pub from : ℕ
  pub is_at : IsAt course stands before from
  pub leads : Has (slice_index course.rows from) action.state
  pub writes : Has move.writes action.state
  pub marks : IsMarked move action

-- one of the visits says so
abbrev pub HasVisit : List Visit → ℕ → ℕ → Action → Type 0
HasVisit visits place kind action =
    (visit : Visit) × Contains visits visit × (visit.place ≡ place) × (visit.kind ≡ kind)
    × (visit.action ≡ action)

-- by place, then by state
abbrev pub IsBefore : Visit → Visit → Type 0
IsBefore one other =
    (one.place < other.place) ⊎ ((one.place ≡ other.place) × (one.action.state < other.action.state))

-- exactly what paths from these stands write next, each once, in order, and the first of them is marked
pub record AreVisits (course : Course) (stands : List Stand) (visits : List Visit) : Type 0 where
  pub rising : AllPairs IsBefore visits
  pub exact : (place kind : ℕ) (action : Action) → HasVisit visits place kind action
      ↔ IsVisit course stands place kind action
  pub first : (k : ℕ) (visit : Visit) → slice_get visits k ≡ Some visit → IsTrue visit.first ↔ (k ≡ 0)

-- those of the stands of each sequence, one sequence behind another
abbrev pub AreVisitsOf : Course → List (List Stand) → List Visit → Type 0
AreVisitsOf course [] visits = visits ≡ []
AreVisitsOf course (group ∷ groups) visits =
    (here : List Visit) × (there : List Visit) × (visits ≡ here ++ there) × AreVisits course group here
    × AreVisitsOf course groups there
