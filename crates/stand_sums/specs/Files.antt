-- Visits that go on, as stands of longer prefixes.
use Rattle.std.specs.Prelude.{◌≡◌, ℕ, ◌+◌, ◌≤◌, ◌<◌, nat_lt, Bool, true, false, if◌then◌else◌, List, [], ◌∷◌, ◌++◌, map, flat_map, filter, length}
use Rattle.place_walk.specs.declared.visit.Visit.{Visit}
use Rattle.place_walk.specs.declared.stand.Stand.{Stand}
use Rattle.stand_sums.specs.declared.aim.Aim.{Aim}
use Rattle.stand_sums.specs.declared.next_rank.NextRank.{NextRank}
use Rattle.stand_sums.specs.Writings.{Ranks, opens}
use Rattle.stand_sums.specs.Sums.{stands_among}

-- where a path stands behind a visit
abbrev pub stand_at : Bool → Visit → Stand
stand_at first visit = record { place = visit.place; state = visit.action.state; first = first }

-- the same for each visit of a sequence, the first marked
abbrev pub stands_at : List Visit → List Stand
stands_at [] = []
stands_at (visit ∷ visits) = stand_at true visit ∷ map (stand_at false) visits

-- the stands of the prefix with the rank in a sequence: behind each visit that writes it and goes on
abbrev pub stands_in : Ranks → Aim → ℕ → List Visit → List Stand
stands_in ranks aim rank visits = stands_at (filter (opens ranks aim rank) visits)

-- in one sequence after another
abbrev pub stands_of : Ranks → Aim → ℕ → List (List Visit) → List Stand
stands_of ranks aim rank sequences = flat_map (stands_in ranks aim rank) sequences

-- a rank whose stands are filed, from one place of a run to before the other, and those that were
pub record Filed : Type 0 where
  pub rank : ℕ
  pub first : ℕ
  pub last : ℕ
  pub stands : List Stand

-- no stands yet of a next rank
abbrev pub unfiled : NextRank → Filed
unfiled next = record { rank = next.rank; first = next.first; last = next.last; stands = [] }

-- stands of the rank are filed: it has room
abbrev pub IsKept : Filed → Type 0
IsKept filed = filed.first < filed.last

-- where it has room, it has enough for the stands behind these visits beside those that were filed
abbrev pub HasRoom : Ranks → Aim → List Visit → Filed → Type 0
HasRoom ranks aim visits filed =
    IsKept filed
    → filed.first + length filed.stands + stands_among ranks aim filed.rank visits ≤ filed.last

-- all its room is taken
abbrev pub IsFull : Filed → Type 0
IsFull filed = filed.first + length filed.stands ≡ filed.last

-- those in these sequences are filed behind what was, where the rank has room
abbrev pub with_more : Ranks → Aim → List (List Visit) → Filed → Filed
with_more ranks aim sequences filed =
    if nat_lt filed.first filed.last
    then record filed { stands = filed.stands ++ stands_of ranks aim filed.rank sequences }
    else filed

-- up to which rank there is room, and what is filed of each
pub record FilesValue : Type 0 where
  pub room : ℕ
  pub filed : List Filed
