-- The pieces together.
use Rattle.std.proofs.Common.{◌≡◌, ◌↔◌, ℕ, ◌+◌, ◌≤◌, ◌<◌, IsTrue, Some, None, List, [], ◌∷◌, ◌++◌, length, map}
use Rattle.std.specs.List.{All, AllPairs, AllZip, Contains, slice_get, slice_range}
use Rattle.sequence_grids.specs.Grids.{GridList, items_at}
use Rattle.place_walk.specs.declared.stand.Stand.{Stand}
use Rattle.place_walk.specs.declared.visit.Visit.{Visit}
use Rattle.place_walk.specs.Courses.{Course}
use Rattle.place_walk.specs.Visits.{AreVisits}
use Rattle.stand_sums.specs.declared.aim.Aim.{Aim}
use Rattle.stand_sums.specs.declared.next_rank.NextRank.{NextRank}
use Rattle.stand_sums.specs.Writings.{Ranks, opens, ends, follows}
use Rattle.stand_sums.specs.Sequences.{AreSequences, HasOne}
use Rattle.stand_sums.specs.Sums.{Tally, empty_tally, AreCounted, AreNext}
use Rattle.stand_sums.specs.Files.{Filed, unfiled, with_more}
use Rattle.place_records.specs.Records.{start_of}
use Rattle.snapshot_project.specs.Aims.{sees}
use Rattle.snapshot_project.specs.Extensions.{GrowsBehind, GeneratesWithin}
use Rattle.snapshot_project.specs.Grouped.{IsGroupIn, AreGroupsIn, AreAllGrids, AreWeights}
use Rattle.snapshot_project.specs.Live.{OpensNext}
use Rattle.snapshot_project.specs.Snapshots.{IsPart, SnapshotList, AreSnapshots}
use Rattle.snapshot_project.specs.Stands.{IsProjected}
use Rattle.walk_memo.specs.Moves.{MoveSets}
use Rattle.walk_places.specs.declared.places.Record.{Record}
use Rattle.sequence_grids.specs.Successors.{AreSuccessors}
use Rattle.place_records.specs.Records.{AreRecords}
use Rattle.snapshot_project.specs.Aims.{goes}
use Rattle.snapshot_project.specs.Grouped.{course_for}
use Rattle.snapshot_project.proofs.VisitNextLemmas.{visit-within, opens-visit, grows-visit, generates-visit}
use Rattle.snapshot_project.proofs.SumLemmas.{follows-counted, ends-counted, opens-counted}
use Rattle.snapshot_project.proofs.LongerLemmas.{groups-visits}
use Rattle.snapshot_project.proofs.RoomLemmas.{files-run}
use Rattle.snapshot_project.proofs.KidLemmas.{kids-projected}

module _ (part : GridList) (is : IsPart part) (prefixes : List ℕ) (list : SnapshotList) (are : AreSnapshots part prefixes list) (ranks : Ranks) (course : Course) where
  abbrev aim : Aim
  aim = record { seen = list.seen; need = part.bound.need }

  abbrev Each : ((grid : ℕ) (visits : List Visit) → Type 0) → Type 0
  Each Is = (grid : ℕ) (group : List Stand) → IsGroupIn part are.prefix list.seen grid group → (visits : List Visit) → AreVisits course group visits → Is grid visits

  module _
      (within_is : (grid : ℕ) (group : List Stand) → IsGroupIn part are.prefix list.seen grid group → (visits : List Visit) → AreVisits course group visits
      → (visit : Visit) → Contains visits visit → (position : ℕ) × (position < length (items_at part grid)) × (visit.place ≡ start_of part grid + (position + 1)))
      (grows_is : (rank : ℕ) (grid : ℕ) (group : List Stand) → IsGroupIn part are.prefix list.seen grid group → (visits : List Visit) → AreVisits course group visits
      → GrowsBehind part (prefixes ++ rank ∷ []) (items_at part grid) ↔ HasOne (follows ranks aim rank) visits)
      (generates_is : (rank : ℕ) (grid : ℕ) (group : List Stand) → IsGroupIn part are.prefix list.seen grid group → (visits : List Visit) → AreVisits course group visits
      → GeneratesWithin part (prefixes ++ rank ∷ []) (items_at part grid) ↔ HasOne (ends ranks aim rank) visits)
      (opens_is : (grid : ℕ) (group : List Stand) → IsGroupIn part are.prefix list.seen grid group → (visits : List Visit) → AreVisits course group visits
      → (rank position state : ℕ) → OpensNext part.problem part.bound (items_at part grid) are.prefix list.seen rank position state
      ↔ ((visit : Visit) × Contains visits visit × (visit.place ≡ start_of part grid + position) × (visit.action.state ≡ state)
      × IsTrue (opens ranks aim rank visit)))
      (grids : List ℕ) (rising : AllPairs (λ low high. low < high) grids) (all_grids : AreAllGrids part list.snapshots grids)
      (groups : List (List Stand)) (groups_are : AreGroupsIn part are.prefix list.seen grids groups)
      (sequences : List (List Visit)) (visits_are : AllZip (AreVisits course) groups sequences) (weights : List ℕ) (weigh : AreWeights part weights)
      (least : ℕ) (some : 1 ≤ least) (visits : List Visit) (cut : AreSequences visits sequences) (tallies : List Tally)
      (counted : (rank : ℕ) (tally : Tally) → slice_get tallies rank ≡ Some tally → AreCounted ranks aim weights rank visits sequences empty_tally tally)
      (found : List NextRank) (are_next : AreNext least least tallies found) (run : List Stand)
      (each : All (λ (filed : Filed). slice_range run filed.first filed.last ≡ filed.stands) (map (with_more ranks aim sequences) (map unfiled found))) where
    pub all-projected : (next : NextRank) → Contains found next
        → IsProjected part least (prefixes ++ next.rank ∷ [])
        (record { seen = sees list.seen part.bound.need next.rank; support = next.support; stands = slice_range run next.first next.last; next = None; bytes = None })
    all-projected =
        kids-projected part is prefixes list are ranks grids rising all_grids sequences
        (λ rank. groups-visits part is prefixes list are ranks course within_is opens_is rank grids groups sequences groups_are visits_are)
        least some weights visits cut tallies counted found are_next
        (λ rank. follows-counted part is ranks aim prefixes list are course within_is grids rising all_grids groups groups_are sequences visits_are weights weigh rank (grows_is rank))
        (λ rank. ends-counted part is ranks aim prefixes list are course within_is grids rising all_grids groups groups_are sequences visits_are weights weigh rank (generates_is rank))
        (λ rank n. opens-counted part is ranks aim prefixes list are course within_is grids rising all_grids groups groups_are sequences visits_are weights weigh rank
        (λ grid group here those exact. opens_is grid group here those exact rank) n least)
        run (files-run ranks aim sequences found run each)

-- the same, with what is proved of visits
module _ (part : GridList) (is : IsPart part) (width : ℕ) (rows : List ℕ) (rows_are : AreSuccessors width part.problem.transducer rows)
    (places : List Record) (early late : List MoveSets) (ranks : Ranks) (CanAsk : ℕ → ℕ → Type 0) (records : AreRecords part places early late ranks CanAsk)
    (prefixes : List ℕ) (list : SnapshotList) (are : AreSnapshots part prefixes list)
    (grids : List ℕ) (rising : AllPairs (λ low high. low < high) grids) (all_grids : AreAllGrids part list.snapshots grids)
    (groups : List (List Stand)) (groups_are : AreGroupsIn part are.prefix list.seen grids groups)
    (sequences : List (List Visit)) (visits_are : AllZip (AreVisits (course_for rows places early late (goes list.seen part.bound.need))) groups sequences)
    (weights : List ℕ) (weigh : AreWeights part weights) (least : ℕ) (some : 1 ≤ least) (visits : List Visit) (cut : AreSequences visits sequences) (tallies : List Tally)
    (counted : (rank : ℕ) (tally : Tally) → slice_get tallies rank ≡ Some tally
    → AreCounted ranks (record { seen = list.seen; need = part.bound.need }) weights rank visits sequences empty_tally tally)
    (found : List NextRank) (are_next : AreNext least least tallies found) (run : List Stand)
    (each : All (λ (filed : Filed). slice_range run filed.first filed.last ≡ filed.stands)
    (map (with_more ranks (record { seen = list.seen; need = part.bound.need }) sequences) (map unfiled found))) where
  pub all-kids : (next : NextRank) → Contains found next
      → IsProjected part least (prefixes ++ next.rank ∷ [])
      (record { seen = sees list.seen part.bound.need next.rank; support = next.support; stands = slice_range run next.first next.last; next = None; bytes = None })
  all-kids =
      all-projected part is prefixes list are ranks (course_for rows places early late (goes list.seen part.bound.need))
      (λ grid group here those exact. visit-within part is width rows rows_are places early late ranks CanAsk records are.prefix list.seen grid group here (Contains those) exact.exact)
      (λ rank grid group here those exact. grows-visit part is width rows rows_are places early late ranks CanAsk records prefixes list are grid group here (Contains those) exact.exact rank)
      (λ rank grid group here those exact. generates-visit part is width rows rows_are places early late ranks CanAsk records prefixes list are grid group here (Contains those) exact.exact rank)
      (λ grid group here those exact rank. opens-visit part is width rows rows_are places early late ranks CanAsk records are.prefix list.seen grid group here (Contains those) exact.exact rank)
      grids rising all_grids groups groups_are sequences visits_are weights weigh least some visits cut tallies counted found are_next run each
