-- What the room keeps.
use Rattle.std.specs.Prelude.{ℕ, ◌<◌, ◌↔◌, Option, Some, None, List, [], map, length, Contains, slice_index, slice_index_or, slice_range}
use Rattle.state_bits.specs.Members.{Has}
use Rattle.place_walk.specs.declared.visit.Visit.{Visit}
use Rattle.place_walk.specs.Courses.{Course}
use Rattle.stand_sums.specs.Writings.{Ranks}
use Rattle.stand_sums.specs.Kept.{IsSequenceEnd}
use Rattle.mask_sums.specs.Kept.{HasOneMore}
use Rattle.level_ahead.specs.declared.gathered.Gathered.{Gathered}
use Rattle.level_ahead.specs.Behind.{FollowsBehind, GoesOnBehind}
use Rattle.level_ahead.specs.Counts.{Behind}

-- behind the rank the other was met
abbrev pub HasGathered : Gathered → ℕ → ℕ → Type 0
HasGathered gathered rank other =
    Has gathered.touched rank × Has (slice_index gathered.sets.items rank) other

-- what was counted behind the rank
abbrev pub behind_at : List (List ℕ) → ℕ → Behind
behind_at counts rank = record { rank = rank; counts = slice_index_or counts rank [] }

abbrev pub behinds : List (List ℕ) → List ℕ → List Behind
behinds counts ranks = map (behind_at counts) ranks

-- one more behind each rank of what was met there, and of nothing else
abbrev pub HaveOneMore : Gathered → List (List ℕ) → List (List ℕ) → Type 0
HaveOneMore gathered before after =
    (rank : ℕ) → HasOneMore (HasGathered gathered rank) (slice_index_or before rank [])
    (slice_index_or after rank [])

-- the set has the ranks that are asked about, and for each there is room
pub record IsRoom (ranks : List ℕ) (asked : ℕ) (sets : List ℕ) (counts : List (List ℕ)) : Type 0 where
  pub asked_are : (rank : ℕ) → Has asked rank ↔ Contains ranks rank
  pub sets_room : (rank : ℕ) → Has asked rank → rank < length sets
  pub counts_room : (rank : ℕ) → Has asked rank → rank < length counts

-- the sequence from this place on has this end, and what follows behind each rank asked about was met there,
-- and nothing goes on
pub record IsReadTo (course : Course) (ranks : Ranks) (lacking : Option ℕ) (asked : ℕ) (visits : List Visit)
    (from : ℕ) (gathered : Gathered) (end : ℕ) : Type 0 where
  pub end_is : IsSequenceEnd visits from end
  pub touched : (rank : ℕ) → Has gathered.touched rank → Has asked rank
  pub met : (rank other : ℕ) → Has asked rank → HasGathered gathered rank other
      ↔ FollowsBehind course ranks lacking rank other (slice_range visits from end)
  pub ended : (rank : ℕ) → Has asked rank
      → GoesOnBehind course ranks lacking rank (slice_range visits from end) → ⊥

-- or something goes on behind one of the ranks
abbrev pub IsReadOrNone : Course → Ranks → Option ℕ → ℕ → List Visit → ℕ → Gathered → Option ℕ → Type 0
IsReadOrNone course ranks lacking asked visits from gathered (Some end) =
    IsReadTo course ranks lacking asked visits from gathered end
IsReadOrNone course ranks lacking asked visits from gathered None =
    (rank : ℕ) × Has asked rank × GoesOnBehind course ranks lacking rank visits
