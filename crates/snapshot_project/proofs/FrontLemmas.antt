-- The stands of one of the ranks that were found, in a run of their own.
use Rattle.std.proofs.Common.{◌≡◌, ℕ, zero, suc, ◌+◌, ◌-◌, ◌≤◌, ◌<◌, inl, inr, Some, List, [], ◌∷◌, length, refl, sym, ap, ◌∙◌, subst, arith}
use Rattle.std.specs.List.{All, AllPairs, AllZip, Contains, slice_range}
use Rattle.std.proofs.lemmas.List.Elements.{All-contains}
use Rattle.std.proofs.lemmas.Option.{same_Some}
use Rattle.mine_model.proofs.ListLemmas.{Contains-cases, Contains-first, Contains-none}
use Rattle.place_walk.specs.declared.stand.Stand.{Stand}
use Rattle.place_walk.specs.declared.visit.Visit.{Visit}
use Rattle.place_walk.specs.Courses.{Course}
use Rattle.place_walk.specs.Groups.{AreGroups}
use Rattle.place_walk.specs.Visits.{AreVisits}
use Rattle.stand_sums.specs.declared.aim.Aim.{Aim}
use Rattle.stand_sums.specs.declared.next_rank.NextRank.{NextRank}
use Rattle.stand_sums.specs.Writings.{Ranks}
use Rattle.stand_sums.specs.Files.{stands_of}
use Rattle.stand_sums.specs.Sums.{AreLaidOut}
use Rattle.mask_sums.specs.Kept.{lacking}
use Rattle.snapshot_project.specs.Ahead.{moved_front, AreFiledAhead, HaveRoomAhead}
use Rattle.snapshot_project.specs.Founds.{AreInRun}
use Rattle.snapshot_project.specs.Longer.{HasPlaces, HaveAllPlaces}
use Rattle.snapshot_project.proofs.GrownLemmas.{range-within}
use Rattle.snapshot_project.proofs.RoomLemmas.{files-run}

module _ (course : Course) (ranks : Ranks) (aim : Aim) (stands : List Stand) (found : List NextRank) (one : NextRank) (held : Contains found one) (some : one.first < one.last)
    (places : (groups : List (List Stand)) → AreGroups stands groups
    → (sequences : List (List Visit)) × AllZip (AreVisits course) groups sequences × HaveAllPlaces ranks aim sequences found) where
  abbrev pub only : List NextRank
  only = moved_front one ∷ []

  only-is : (next : NextRank) → Contains only next → moved_front one ≡ next
  only-is next there = elim (Contains-cases (moved_front one) [] next there) [ inl same ↦ sym same | inr no' ↦ absurd (Contains-none next no') ]

  pub front-rising : AllPairs (λ (low high : NextRank). low.rank < high.rank) only
  front-rising i j d less within = absurd (omega arith)

  pub front-laid : (end : ℕ) × AreLaidOut 0 only end
  front-laid = ((moved_front one).last, (refl, omega arith, refl))

  pub front-below : (room : ℕ) → All (λ (next : NextRank). next.rank < room) found → All (λ (next : NextRank). next.rank < room) only
  front-below room below zero d inside = All-contains (λ (next : NextRank). next.rank < room) found one below held
  front-below room below (suc k) d inside = absurd (omega arith)

  front-one : (sequences : List (List Visit)) → HasPlaces ranks aim sequences one → HasPlaces ranks aim sequences (moved_front one)
  front-one sequences has = record { forward = omega arith; room = λ kept. let whole = has.room some in omega arith }

  pub front-places : (groups : List (List Stand)) → AreGroups stands groups
      → (sequences : List (List Visit)) × AllZip (AreVisits course) groups sequences × HaveAllPlaces ranks aim sequences only
  front-places groups are =
      let (sequences, visited, all) = places groups are in
      (sequences, visited, λ next there. subst (HasPlaces ranks aim sequences) (only-is next there) (front-one sequences (all one held)))

  module _ (need : ℕ) (named : one.rank ≡ need) (lacks : lacking aim ≡ Some need) (run : List Stand)
      (filed : (groups : List (List Stand)) (sequences : List (List Visit)) → AreGroups stands groups → AllZip (AreVisits course) groups sequences
      → AreInRun ranks aim sequences only run) where
    -- each entry of the rank has as many places
    as-many : (next : NextRank) → Contains found next → next.rank ≡ one.rank → next.first < next.last → (groups : List (List Stand)) → AreGroups stands groups
        → next.last - next.first ≡ one.last - one.first
    as-many next there same kept groups are =
        let (sequences, visited, all) = places groups are in
        let mine : one.first + length (stands_of ranks aim one.rank sequences) ≡ one.last = (all one held).room some in
        let its : next.first + length (stands_of ranks aim one.rank sequences) ≡ next.last =
        subst (λ (r : ℕ). next.first + length (stands_of ranks aim r sequences) ≡ next.last) same ((all next there).room kept) in
        omega arith

    front-run : (groups : List (List Stand)) (sequences : List (List Visit)) → AreGroups stands groups → AllZip (AreVisits course) groups sequences
        → slice_range run 0 (one.last - one.first) ≡ stands_of ranks aim one.rank sequences
    front-run groups sequences are visited =
        files-run ranks aim sequences only run (filed groups sequences are visited) (moved_front one) (Contains-first (moved_front one) []) (omega arith)

    same-rank : (next : NextRank) → lacking aim ≡ Some next.rank → next.rank ≡ one.rank
    same-rank next lacked = same_Some next.rank need (sym lacked ∙ lacks) ∙ sym named

    pub front-filed : AreFiledAhead course ranks aim stands found run
    front-filed next there lacked kept groups sequences are visited =
        let same = same-rank next lacked in
        ap (slice_range run 0) (as-many next there same kept groups are) ∙ front-run groups sequences are visited ∙ ap (λ (r : ℕ). stands_of ranks aim r sequences) (sym same)

    pub front-within : (groups : List (List Stand)) → AreGroups stands groups → HaveRoomAhead aim found run
    front-within groups are next there lacked kept =
        let same = same-rank next lacked in
        let many = as-many next there same kept groups are in
        let (sequences, visited, all) = places groups are in
        let long : one.first + length (stands_of ranks aim one.rank sequences) ≡ one.last = (all one held).room some in
        let cut : length (slice_range run 0 (one.last - one.first)) ≡ length (stands_of ranks aim one.rank sequences) = ap (λ (l : List Stand). length l) (front-run groups sequences are visited) in
        let within : one.last - one.first ≤ length run = range-within run 0 (one.last - one.first) (omega arith) (omega arith) in
        omega arith

-- where the rank has no places, or none is lacking
pub none-filed : (course : Course) (ranks : Ranks) (aim : Aim) (stands : List Stand) (found : List NextRank) (run : List Stand)
    → ((next : NextRank) → Contains found next → lacking aim ≡ Some next.rank → next.last ≤ next.first) → AreFiledAhead course ranks aim stands found run
none-filed course ranks aim stands found run none next there lacked kept groups sequences are visited = absurd (let past = none next there lacked in omega arith)

pub none-within : (aim : Aim) (found : List NextRank) (run : List Stand)
    → ((next : NextRank) → Contains found next → lacking aim ≡ Some next.rank → next.last ≤ next.first) → HaveRoomAhead aim found run
none-within aim found run none next there lacked kept = absurd (let past = none next there lacked in omega arith)
