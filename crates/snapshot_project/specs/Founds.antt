-- What walks from the stands of a prefix find.
use Rattle.std.specs.Prelude.{◌≡◌, ℕ, ◌<◌, Option, Some, None, IfSome, List, [], ◌++◌, length, map, All, slice_get, slice_range}
use Rattle.std.specs.List.{AllZip}
use Rattle.place_walk.specs.declared.stand.Stand.{Stand}
use Rattle.place_walk.specs.declared.visit.Visit.{Visit}
use Rattle.place_walk.specs.Courses.{Course}
use Rattle.place_walk.specs.Visits.{AreVisits}
use Rattle.place_walk.specs.Groups.{AreGroups}
use Rattle.stand_sums.specs.declared.aim.Aim.{Aim}
use Rattle.stand_sums.specs.declared.next_rank.NextRank.{NextRank}
use Rattle.stand_sums.specs.Writings.{Ranks}
use Rattle.stand_sums.specs.Sequences.{AreSequences}
use Rattle.stand_sums.specs.Sums.{Tally, empty_tally, AreCounted, AreNext}
use Rattle.stand_sums.specs.Files.{Filed, unfiled, with_more}
use Rattle.sequence_grids.specs.Grids.{GridList}
use Rattle.place_records.specs.Ranks.{ranks_of}
use Rattle.place_records.specs.Values.{RecordsValue}
use Rattle.snapshot_project.specs.declared.terrain.Terrain.{Terrain}
use Rattle.snapshot_project.specs.Aims.{goes}
use Rattle.snapshot_project.specs.Ahead.{AreAhead}
use Rattle.snapshot_project.specs.Grouped.{course_for, AreWeights}
use Rattle.snapshot_project.specs.Snapshots.{SnapshotList, AreSnapshots, IsPart}
use Rattle.snapshot_project.specs.Stands.{AreStandsOf, StandList}
use Rattle.snapshot_project.specs.Terrains.{IsGround, IsTerrain}

-- the stands are those of a prefix in the part, of which is told whether it holds what is needed
pub record AreStandsFor (part : GridList) (aim : Aim) (stands : List Stand) : Type 0 where
  pub is : IsPart part
  pub need : aim.need ≡ part.bound.need
  pub prefixes : List ℕ
  pub list : SnapshotList
  pub are : AreSnapshots part prefixes list
  pub seen : aim.seen ≡ list.seen
  pub stands_are : AreStandsOf part list.snapshots stands

-- so over this terrain, for so many ranks
pub record IsReady {W : ℕ} (terrain : Terrain W) (aim : Aim) (stands : List Stand) (room : ℕ) : Type 0 where
  pub part : GridList
  pub ground : IsTerrain part terrain
  pub stands_for : AreStandsFor part aim stands
  pub most : length part.problem.ranking.order < room

-- the course of paths with this aim
abbrev pub course_over : List ℕ → RecordsValue → Aim → Course
course_over rows value aim = course_for rows value.places value.early value.late (goes aim.seen aim.need)

-- the visits of these sequences were summed up for each rank
abbrev pub AreTallied : Ranks → Aim → List ℕ → List Visit → List (List Visit) → List Tally → Type 0
AreTallied ranks aim weights visits sequences tallies =
    (rank : ℕ) (tally : Tally) → slice_get tallies rank ≡ Some tally
    → AreCounted ranks aim weights rank visits sequences empty_tally tally

-- a walk through some of the groups of stands, which leaves these stands, has found the visits
pub record AreWalked (course : Course) (groups : List (List Stand)) (left : List Stand) (visits : List Visit)
    : Type 0 where
  pub done : List (List Stand)
  pub rest : List (List Stand)
  pub cut : groups ≡ done ++ rest
  pub left_are : AreGroups left rest
  pub sequences : List (List Visit)
  pub walked : AllZip (AreVisits course) done sequences
  pub cut_are : AreSequences visits sequences

-- so in one walk or in several, and the visits were summed up
pub record AreSummed (course : Course) (ranks : Ranks) (aim : Aim) (weights : List ℕ)
    (groups : List (List Stand)) (left : List Stand) (tallies : List Tally)
    : Type 0 where
  pub visits : List Visit
  pub walk : AreWalked course groups left visits
  pub tallied : AreTallied ranks aim weights visits walk.sequences tallies

-- the stands of each rank with places stand at them in the run
abbrev pub AreInRun : Ranks → Aim → List (List Visit) → List NextRank → List Stand → Type 0
AreInRun ranks aim sequences found run =
    All (λ (filed : Filed). slice_range run filed.first filed.last ≡ filed.stands)
    (map (with_more ranks aim sequences) (map unfiled found))

-- the ranks up to the most whose sums over all stands reach the least, and their stands in a run, or what is
-- kept of the longer prefixes in place of these
pub record AreFound (course : Course) (ranks : Ranks) (aim : Aim) (weights : List ℕ) (least most : ℕ)
    (stands : List Stand) (found : List NextRank) (run : List Stand) (longer : Option (List StandList))
    : Type 0 where
  pub tallies : List Tally
  pub room : most ≡ length tallies
  pub summed : (groups : List (List Stand)) → AreGroups stands groups
      → AreSummed course ranks aim weights groups [] tallies
  pub next : AreNext least least tallies found
  pub filed : longer ≡ None → (groups : List (List Stand)) (sequences : List (List Visit))
      → AreGroups stands groups → AllZip (AreVisits course) groups sequences
      → AreInRun ranks aim sequences found run
  pub ahead : IfSome longer (AreAhead course ranks aim weights least most stands found)

-- so over what a part keeps
pub record IsFoundIn (part : GridList) (aim : Aim) (least room : ℕ) (stands : List Stand)
    (found : List NextRank) (run : List Stand) (longer : Option (List StandList))
    : Type 0 where
  pub width : ℕ
  pub rows : List ℕ
  pub value : RecordsValue
  pub ground : IsGround width part rows value
  pub weights : List ℕ
  pub weights_are : AreWeights part weights
  pub found_are : AreFound (course_over rows value aim) (ranks_of value.table) aim weights least room stands
      found run longer
