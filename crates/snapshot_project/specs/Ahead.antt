-- What is kept of longer prefixes where it was counted ahead what follows them.
use Rattle.std.specs.Prelude.{◌≡◌, ℕ, ◌-◌, ◌<◌, ◌≤◌, ◌⊎◌, Option, None, Some, List, [], map, replicate, length, Contains, slice_get, slice_range}
use Rattle.std.specs.declared.alloc.Global.{Global}
use Rattle.std.specs.declared.vec.Vec.{Vec}
use Rattle.std.specs.List.{AllZip}
use Rattle.std.specs.Option.{option_map}
use Rattle.place_walk.specs.declared.stand.Stand.{Stand}
use Rattle.place_walk.specs.declared.visit.Visit.{Visit}
use Rattle.place_walk.specs.Courses.{Course}
use Rattle.place_walk.specs.Visits.{AreVisits}
use Rattle.place_walk.specs.Groups.{AreGroups}
use Rattle.stand_sums.specs.declared.aim.Aim.{Aim}
use Rattle.stand_sums.specs.declared.next_rank.NextRank.{NextRank}
use Rattle.stand_sums.specs.Writings.{Ranks}
use Rattle.stand_sums.specs.Files.{stands_of}
use Rattle.mask_sums.specs.Kept.{lacking}
use Rattle.level_ahead.specs.declared.next_of.NextOf.{NextOf}
use Rattle.level_ahead.specs.Counts.{Behind, AreAdded, AreReaching}
use Rattle.snapshot_project.specs.declared.next_rank.NextRank.{NextRank as Next}
use Rattle.snapshot_project.specs.Aims.{sees}
use Rattle.snapshot_project.specs.Longer.{kept_of}
use Rattle.snapshot_project.specs.Stands.{StandList}

-- the elements, if there is a list
abbrev pub items_if : {X : Type 0} → Option (Vec X Global) → Option (List X)
items_if list = option_map (λ xs. xs.items) list

-- a rank that follows and behind which nothing more does, where each sequence weighs 1
abbrev pub next_of : NextOf → Next
next_of next = record { rank = next.rank; weight = next.count; support = next.count }

-- what is kept of the prefix with it
abbrev pub last_of : Aim → NextOf → StandList
last_of aim next = record {
  seen = sees aim.seen aim.need next.rank;
  support = next.count;
  stands = [];
  next = None;
  bytes = None;
}

-- it is told what follows the prefix with the rank: by one of these counts, if it has places, and else
-- nothing
pub record IsToldAhead (aim : Aim) (least : ℕ) (behinds : List Behind) (next : NextRank) (kept : StandList)
    : Type 0 where
  pub seen : kept.seen ≡ sees aim.seen aim.need next.rank
  pub support : kept.support ≡ next.support
  pub told : List NextOf
  pub next_is : kept.next ≡ Some (map next_of told)
  pub counted : next.first < next.last
      → (behind : Behind) × Contains behinds behind × (behind.rank ≡ next.rank)
      × AreReaching least behind.counts told
  pub nothing : next.last ≤ next.first → told ≡ []

-- the rank, with its places from 0 on
abbrev pub moved_front : NextRank → NextRank
moved_front next = record next { first = 0; last = next.last - next.first }

-- or its stands are kept, which are as many of the run as it has places: it is the one that was lacking
pub record IsStandingAhead (aim : Aim) (run : List Stand) (next : NextRank) (kept : StandList) : Type 0 where
  pub lacked : lacking aim ≡ Some next.rank
  pub some : next.first < next.last
  pub is : kept ≡ kept_of aim run (moved_front next)

-- what is kept of the prefix with the rank
abbrev pub IsKeptAhead : Aim → ℕ → List Behind → List Stand → NextRank → StandList → Type 0
IsKeptAhead aim least behinds run next kept =
    IsToldAhead aim least behinds next kept ⊎ IsStandingAhead aim run next kept

-- the run is long enough for them
abbrev pub HaveRoomAhead : Aim → List NextRank → List Stand → Type 0
HaveRoomAhead aim found run = (next : NextRank) → Contains found next → lacking aim ≡ Some next.rank
    → next.first < next.last → next.last - next.first ≤ length run

-- the stands of the prefix with the rank that is lacking are in the run, if it has places
abbrev pub AreFiledAhead : Course → Ranks → Aim → List Stand → List NextRank → List Stand → Type 0
AreFiledAhead course ranks aim stands found run = (next : NextRank) → Contains found next
    → lacking aim ≡ Some next.rank → next.first < next.last
    → (groups : List (List Stand)) (sequences : List (List Visit)) → AreGroups stands groups
    → AllZip (AreVisits course) groups sequences
    → slice_range run 0 (next.last - next.first) ≡ stands_of ranks aim next.rank sequences

-- what follows behind each of the ranks asked about was counted in these sequences, too, and nothing goes on
-- there
abbrev pub AreAllAdded : Course → Ranks → Option ℕ → List (List Visit) → List Behind → List Behind → Type 0
AreAllAdded course ranks lacks sequences all later =
    (k : ℕ) (before after : Behind) → slice_get all k ≡ Some before → slice_get later k ≡ Some after
    → AreAdded course ranks lacks sequences before after

-- so from nothing on
abbrev pub AreCountedAhead : Course → Ranks → Option ℕ → List (List Visit) → List Behind → Type 0
AreCountedAhead course ranks lacks sequences behinds =
    (behind : Behind) → Contains behinds behind
    → AreAdded course ranks lacks sequences (record { rank = behind.rank; counts = replicate 256 0 }) behind

-- so from all stands, where each sequence weighs 1 and there are few ranks; not behind the rank that is
-- lacking, whose stands are in the run
pub record AreAhead (course : Course) (ranks : Ranks) (aim : Aim) (weights : List ℕ) (least most : ℕ)
    (stands : List Stand) (found : List NextRank) (longer : List StandList)
    : Type 0 where
  pub light : weights ≡ []
  pub few : most ≤ 256
  pub behinds : List Behind
  pub apart : (behind : Behind) → Contains behinds behind → lacking aim ≡ Some behind.rank → ⊥
  pub run : List Stand
  pub filed : AreFiledAhead course ranks aim stands found run
  pub kept : AllZip (IsKeptAhead aim least behinds run) found longer
  pub counted : (groups : List (List Stand)) (sequences : List (List Visit)) → AreGroups stands groups
      → AllZip (AreVisits course) groups sequences
      → AreCountedAhead course ranks (lacking aim) sequences behinds
