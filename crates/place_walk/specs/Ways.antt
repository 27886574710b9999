-- A walk on its way through the places of one sequence.
use Rattle.std.specs.Prelude.{◌≡◌, ℕ, ◌+◌, ◌≤◌, ◌<◌, ◌⊎◌, ◌↔◌, true, false, Some, List, [], ◌∷◌, length, map, AllPairs, Contains, IsTrue, slice_get}
use Rattle.state_bits.specs.Members.{Has}
use Rattle.walk_memo.specs.declared.action.Action.{Action}
use Rattle.walk_memo.specs.Moves.{MoveSets}
use Rattle.walk_memo.specs.Steps.{IsAfter, AreActions}
use Rattle.walk_places.specs.declared.places.Record.{Record}
use Rattle.place_walk.specs.declared.stand.Stand.{Stand}
use Rattle.place_walk.specs.declared.visit.Visit.{Visit}
use Rattle.place_walk.specs.Courses.{Course, Holds}
use Rattle.place_walk.specs.Stands.{Arrives}
use Rattle.place_walk.specs.Visits.{IsVisit, HasVisit, IsBefore}

-- the stands from one index to the other are before the place or an earlier one, and the next before a later
pub record AreTaken (group : List Stand) (from place to : ℕ) : Type 0 where
  pub forward : from ≤ to
  pub within : to ≤ length group
  pub taken : (k : ℕ) (stand : Stand) → from ≤ k → k < to → slice_get group k ≡ Some stand
      → stand.place ≤ place
  pub left : (stand : Stand) → slice_get group to ≡ Some stand → place < stand.place

-- one of the stands from one index to the other has the state
abbrev pub Joins : List Stand → ℕ → ℕ → ℕ → Type 0
Joins group from to state =
    (k : ℕ) × (stand : Stand) × (from ≤ k) × (k < to) × (slice_get group k ≡ Some stand)
    × (stand.state ≡ state)

-- the place is the next one that matters
pub record IsNextAt (group : List Stand) (taken place end set at : ℕ) : Type 0 where
  pub within : at < end
  pub stays : (set ≡ 0) ⊎ (at ≡ place)
  pub jumps : set ≡ 0 → (stand : Stand) × (slice_get group taken ≡ Some stand) × (stand.place ≡ at)

-- the visit of an action at a place, not marked
abbrev pub visit_of : ℕ → ℕ → Action → Visit
visit_of place kind action = record { place = place; kind = kind; action = action; first = false }

-- what a set of states does at the place: the set behind it, and the visits there
pub record IsStepOver (course : Course) (place before after : ℕ) (visits : List Visit) : Type 0 where
  pub entry : Record
  pub move : MoveSets
  pub holds : Holds course place entry move
  pub next : IsAfter course.rows move before after
  pub actions : List Action
  pub written : visits ≡ map (visit_of (place + 1) entry.kind) actions
  pub exact : AreActions course.rows move before actions

-- exactly the visits of the stands up to the place, in order, none of them marked
pub record AreVisitsTo (course : Course) (group : List Stand) (place : ℕ) (visits : List Visit) : Type 0 where
  pub rising : AllPairs IsBefore visits
  pub most : (visit : Visit) → Contains visits visit → visit.place ≤ place
  pub right : (at kind : ℕ) (action : Action) → HasVisit visits at kind action
      → IsVisit course group at kind action
  pub all : (at kind : ℕ) (action : Action) → at ≤ place → IsVisit course group at kind action
      → HasVisit visits at kind action
  pub plain : (visit : Visit) → Contains visits visit → visit.first ≡ false

-- the stands before the place were taken, the set has what arrives there, and the visits up to it were made
pub record IsOnWay (course : Course) (group : List Stand) (taken place set : ℕ) (visits : List Visit)
    : Type 0 where
  pub arrived : (state : ℕ) → Has set state ↔ Arrives course group place state
  pub before : (k : ℕ) (stand : Stand) → k < taken → slice_get group k ≡ Some stand → stand.place < place
  pub behind : (k : ℕ) (stand : Stand) → taken ≤ k → slice_get group k ≡ Some stand → place ≤ stand.place
  pub found : AreVisitsTo course group place visits

-- the visits, the first of them marked
abbrev pub with_first : List Visit → List Visit
with_first [] = []
with_first (visit ∷ visits) =
    record { place = visit.place; kind = visit.kind; action = visit.action; first = true } ∷ visits

-- a group ends at the next mark, or where the stands do
pub record IsGroupEnd (stands : List Stand) (from end : ℕ) : Type 0 where
  pub some : from < end
  pub within : end ≤ length stands
  pub here : (k : ℕ) (stand : Stand) → from < k → k < end → slice_get stands k ≡ Some stand
      → stand.first ≡ false
  pub next : (stand : Stand) → slice_get stands end ≡ Some stand → IsTrue stand.first
