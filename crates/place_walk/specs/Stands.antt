-- Where the paths of a prefix stand.
use Rattle.std.specs.Prelude.{◌≡◌, ℕ, zero, suc, ◌⊎◌, List, Contains, slice_index}
use Rattle.state_bits.specs.Members.{Has}
use Rattle.walk_memo.specs.Moves.{MoveSets}
use Rattle.walk_places.specs.declared.places.Record.{Record}
use Rattle.place_walk.specs.declared.stand.Stand.{Stand}
use Rattle.place_walk.specs.Courses.{Course, Holds}

-- one of the stands is before the place, in the state
abbrev pub StandsAt : List Stand → ℕ → ℕ → Type 0
StandsAt stands place state =
    (stand : Stand) × Contains stands stand × (stand.place ≡ place) × (stand.state ≡ state)

-- at the place before, a silent edge leads to the state from one where a path is
abbrev pub Arrives : Course → List Stand → ℕ → ℕ → Type 0
Arrives course stands zero state = ⊥
Arrives course stands (suc before) state =
    (from : ℕ) × (entry : Record) × (move : MoveSets) × Holds course before entry move
    × (Arrives course stands before from ⊎ StandsAt stands before from)
    × Has (slice_index course.rows from) state × Has move.silent state

-- a path is before the place in the state: it stands there, or has come there in silence
abbrev pub IsAt : Course → List Stand → ℕ → ℕ → Type 0
IsAt course stands place state = Arrives course stands place state ⊎ StandsAt stands place state
