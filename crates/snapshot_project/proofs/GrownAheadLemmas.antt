-- What is kept of longer prefixes where it was counted ahead what follows them.
use Rattle.std.proofs.Common.{◌≡◌, ℕ, zero, suc, ◌-◌, ◌≤◌, ◌<◌, inl, inr, Option, Some, None, List, [], ◌∷◌, ◌++◌, length, map, refl, sym, ap, ◌∙◌, subst, arith}
use Rattle.std.specs.List.{AllPairs, AllZip, Contains, slice_get, slice_range}
use Rattle.std.proofs.lemmas.Bool.{cases_lt}
use Rattle.std.specs.Option.{IfSome}
use Rattle.std.proofs.lemmas.List.{length-map}
use Rattle.std.proofs.lemmas.Option.{same_Some, slice_get_within}
use Rattle.std.proofs.lemmas.Slice.Zip.{AllZip-long}
use Rattle.mine_model.proofs.ElementLemmas.{get-some, get-held, slice_get-mapped_by}
use Rattle.mine_model.proofs.ListLemmas.{Contains-none}
use Rattle.sequence_grids.specs.Grids.{GridList}
use Rattle.sequence_grids.specs.Successors.{AreSuccessors}
use Rattle.walk_memo.specs.Moves.{MoveSets}
use Rattle.walk_places.specs.declared.places.Record.{Record}
use Rattle.place_walk.specs.declared.stand.Stand.{Stand}
use Rattle.place_walk.specs.declared.visit.Visit.{Visit}
use Rattle.place_walk.specs.Courses.{Course}
use Rattle.place_walk.specs.Visits.{AreVisits}
use Rattle.stand_sums.specs.declared.aim.Aim.{Aim}
use Rattle.stand_sums.specs.declared.next_rank.NextRank.{NextRank}
use Rattle.stand_sums.specs.Writings.{Ranks, opens, ends, follows}
use Rattle.stand_sums.specs.Sequences.{AreSequences, HasOne, all_weighed}
use Rattle.stand_sums.specs.Sums.{Tally, empty_tally, stands_among, AreCounted, IsTold, AreNext}
use Rattle.stand_sums.specs.Files.{stands_of}
use Rattle.mine_model.specs.Support.{Counts}
use Rattle.mask_sums.specs.Kept.{lacking}
use Rattle.level_ahead.specs.Counts.{Behind}
use Rattle.place_records.specs.Ranks.{ranks_of, CanAskOf}
use Rattle.place_records.specs.Records.{AreRecords}
use Rattle.snapshot_project.specs.declared.next_rank.NextRank.{NextRank as Next}
use Rattle.snapshot_project.specs.Ahead.{next_of, IsToldAhead, IsStandingAhead, IsKeptAhead, AreCountedAhead, AreAhead}
use Rattle.snapshot_project.specs.Aims.{sees, goes}
use Rattle.snapshot_project.specs.Extensions.{CanFollow, IsSupportOf, AreNextRanks}
use Rattle.snapshot_project.specs.Grouped.{course_for, AreGroupsIn, AreAllGrids, AreWeights}
use Rattle.snapshot_project.specs.Founds.{course_over, IsFoundIn}
use Rattle.snapshot_project.specs.Longer.{told_of, IsKeptOf}
use Rattle.snapshot_project.specs.Snapshots.{IsPart, SnapshotList, AreSnapshots}
use Rattle.snapshot_project.specs.Stands.{AreStandsOf, IsLight, AreLastRanks, StandList, TellNext, IsProjected}
use Rattle.snapshot_project.proofs.AheadNextLemmas.{visits-in, kid, kid-is, kid-told}
use Rattle.snapshot_project.proofs.GrownLemmas.{aim-same, empty-next, some-stands}
use Rattle.snapshot_project.proofs.FoundLemmas.{walked-whole}
use Rattle.snapshot_project.proofs.GroupLemmas.{stands-cut}
use Rattle.snapshot_project.proofs.LongerLemmas.{aim_of, longer-stands}
use Rattle.snapshot_project.proofs.KidLemmas.{range-none, follow-ranked, kid-projected}
use Rattle.snapshot_project.proofs.RoomLemmas.{stands-long}
use Rattle.snapshot_project.proofs.SumLemmas.{follows-counted, ends-counted, opens-counted}
use Rattle.snapshot_project.proofs.TallyLemmas.{weight-all, support-all, longer-all, stands-all_among}
use Rattle.snapshot_project.proofs.VisitNextLemmas.{visit-within, opens-visit, grows-visit, generates-visit}

-- what is beside each other in lists that go together
pub zip-at : {A B : Type 0} (R : A → B → Type 0) (xs : List A) (ys : List B) → AllZip R xs ys → (i : ℕ) (x : A) (y : B) → slice_get xs i ≡ Some x → slice_get ys i ≡ Some y → R x y
zip-at R [] ys zip i x y at beside = absurd (cc)
zip-at R (first ∷ xs) [] zip i x y at beside = absurd zip
zip-at {A} {B} R (first ∷ xs) (other ∷ ys) zip zero x y at beside =
    subst (λ (a : A). R a y) (same_Some first x at) (subst (R first) (same_Some other y beside) zip.0)
zip-at R (first ∷ xs) (other ∷ ys) zip (suc i) x y at beside = zip-at R xs ys zip.1 i x y at beside

module _ (part : GridList) (is : IsPart part) (width : ℕ) (rows : List ℕ) (rows_are : AreSuccessors width part.problem.transducer rows)
    (places : List Record) (early late : List MoveSets) (ranks : Ranks) (CanAsk : ℕ → ℕ → Type 0) (records : AreRecords part places early late ranks CanAsk)
    (prefixes : List ℕ) (list : SnapshotList) (are : AreSnapshots part prefixes list)
    (grids : List ℕ) (rising : AllPairs (λ low high. low < high) grids) (all_grids : AreAllGrids part list.snapshots grids)
    (groups : List (List Stand)) (groups_are : AreGroupsIn part are.prefix list.seen grids groups)
    (sequences : List (List Visit)) (visits_are : AllZip (AreVisits (course_for rows places early late (goes list.seen part.bound.need))) groups sequences)
    (weights : List ℕ) (weigh : AreWeights part weights) (least : ℕ) (some : 1 ≤ least) (visits : List Visit) (cut : AreSequences visits sequences) (tallies : List Tally)
    (counted : (rank : ℕ) (tally : Tally) → slice_get tallies rank ≡ Some tally
    → AreCounted ranks (record { seen = list.seen; need = part.bound.need }) weights rank visits sequences empty_tally tally)
    (found : List NextRank) (are_next : AreNext least least tallies found) where
  abbrev aim : Aim
  aim = record { seen = list.seen; need = part.bound.need }

  abbrev course : Course
  course = course_for rows places early late (goes list.seen part.bound.need)

  follow : (rank n : ℕ) → Counts (HasOne (follows ranks aim rank)) (all_weighed weights sequences) n → CanFollow part prefixes rank n
  follow rank =
      follows-counted part is ranks aim prefixes list are course
      (λ grid group here those exact. visit-within part is width rows rows_are places early late ranks CanAsk records are.prefix list.seen grid group here (Contains those) exact.exact)
      grids rising all_grids groups groups_are sequences visits_are weights weigh rank
      (λ grid group here those exact. grows-visit part is width rows rows_are places early late ranks CanAsk records prefixes list are grid group here (Contains those) exact.exact rank)

  supported : (rank n : ℕ) → Counts (HasOne (ends ranks aim rank)) (all_weighed weights sequences) n → IsSupportOf part (prefixes ++ rank ∷ []) n
  supported rank =
      ends-counted part is ranks aim prefixes list are course
      (λ grid group here those exact. visit-within part is width rows rows_are places early late ranks CanAsk records are.prefix list.seen grid group here (Contains those) exact.exact)
      grids rising all_grids groups groups_are sequences visits_are weights weigh rank
      (λ grid group here those exact. generates-visit part is width rows rows_are places early late ranks CanAsk records prefixes list are grid group here (Contains those) exact.exact rank)

  light-behind : (rank n : ℕ) → Counts (HasOne (opens ranks aim rank)) (all_weighed weights sequences) n → n < least → IsLight part (prefixes ++ rank ∷ []) least
  light-behind rank n =
      opens-counted part is ranks aim prefixes list are course
      (λ grid group here those exact. visit-within part is width rows rows_are places early late ranks CanAsk records are.prefix list.seen grid group here (Contains those) exact.exact)
      grids rising all_grids groups groups_are sequences visits_are weights weigh rank
      (λ grid group here those exact. opens-visit part is width rows rows_are places early late ranks CanAsk records are.prefix list.seen grid group here (Contains those) exact.exact rank)
      n least

  module _ (next : NextRank) (held : Contains found next) (low : 1 ≤ next.rank) (high : next.rank ≤ part.bound.top) (tally : Tally) (told : IsTold least tally next)
      (count : AreCounted ranks aim weights next.rank visits sequences empty_tally tally) where
    -- without places nothing follows it
    nowhere-next : next.last ≤ next.first → AreNextRanks part (prefixes ++ next.rank ∷ []) least []
    nowhere-next none =
        let among : tally.stands ≡ stands_among ranks aim next.rank visits = stands-all_among ranks aim weights next.rank visits sequences tally count in
        let long : length (stands_of ranks aim next.rank sequences) ≡ stands_among ranks aim next.rank visits = stands-long ranks aim next.rank visits sequences cut in
        let bare = kid-projected part is prefixes list are ranks grids rising all_grids sequences
        (visits-in part is width rows rows_are places early late ranks CanAsk records prefixes list are grids rising all_grids groups groups_are sequences visits_are)
        least next low high tally told (among ∙ sym long) [] (λ places. absurd (omega (arith, none, places)))
        (supported next.rank tally.support (support-all ranks aim weights next.rank visits sequences tally count))
        (light-behind next.rank tally.longer (longer-all ranks aim weights next.rank visits sequences tally count)) in
        empty-next part is least some (prefixes ++ next.rank ∷ [])
        (record { seen = sees list.seen part.bound.need next.rank; support = next.support; stands = slice_range [] next.first next.last; next = None; bytes = None }) bare refl refl
        (ap (λ (l : List Stand). length l) (range-none [] next.first next.last none))

    module _ (support : IsSupportOf part (prefixes ++ next.rank ∷ []) next.support) where
      abbrev mine : SnapshotList
      mine =
          kid part is width rows rows_are places early late ranks CanAsk records prefixes list are grids rising all_grids groups groups_are sequences visits_are
          next.rank low high next.support support

      -- where it is told what follows it
      told-by : (light : weights ≡ []) → length part.problem.ranking.order < 256 → (behinds : List Behind)
          → ((behind : Behind) → Contains behinds behind → lacking aim ≡ Some behind.rank → ⊥)
          → AreCountedAhead course ranks (lacking aim) sequences behinds → (kept : StandList) → IsToldAhead aim least behinds next kept
          → IsProjected part least (prefixes ++ next.rank ∷ []) kept
      told-by light few behinds apart ahead kept is_kept =
          let last : AreLastRanks part least (prefixes ++ next.rank ∷ []) (map next_of is_kept.told) = elim (cases_lt next.first next.last) [
            | inl places_are ↦
                let (behind, inside, same, reaching) = is_kept.counted places_are in
                kid-told part is width rows rows_are places early late ranks CanAsk records prefixes list are grids rising all_grids groups groups_are sequences visits_are
                next.rank low high next.support support weights weigh (λ lack. apart behind inside (lack ∙ ap Some (sym same))) light behind same (ahead behind inside) least some few
                is_kept.told reaching
            | inr none ↦
                subst (λ (l : List _). AreLastRanks part least (prefixes ++ next.rank ∷ []) (map next_of l)) (sym (is_kept.nothing none))
                (record { are = nowhere-next none; last = λ n there. absurd (Contains-none n there) })
          ] in
          record {
            snapshots = mine;
            are = kid-is part is width rows rows_are places early late ranks CanAsk records prefixes list are grids rising all_grids groups groups_are sequences visits_are
                next.rank low high next.support support;
            seen = is_kept.seen;
            support = is_kept.support;
            stands = subst (λ (told : Option (List Next)). TellNext part least (prefixes ++ next.rank ∷ []) mine kept.stands told kept.bytes) (sym is_kept.next_is) last;
          }

      -- where its stands are kept
      standing-by : (run : List Stand)
          → (lacking aim ≡ Some next.rank → next.first < next.last → slice_range run 0 (next.last - next.first) ≡ stands_of ranks aim next.rank sequences)
          → (kept : StandList) → IsStandingAhead aim run next kept → IsProjected part least (prefixes ++ next.rank ∷ []) kept
      standing-by run filed kept is_kept =
          let (snapshots, taken, stands) =
          longer-stands part is prefixes list are ranks next.rank grids rising all_grids sequences
          (visits-in part is width rows rows_are places early late ranks CanAsk records prefixes list are grids rising all_grids groups groups_are sequences visits_are next.rank)
          next.support low high support in
          let own : SnapshotList = record { seen = sees list.seen part.bound.need next.rank; support = next.support; snapshots = snapshots } in
          let same : kept.stands ≡ stands_of ranks aim next.rank sequences = ap (λ (k : StandList). k.stands) is_kept.is ∙ filed is_kept.lacked is_kept.some in
          let plain : TellNext part least (prefixes ++ next.rank ∷ []) own kept.stands None None = inl (subst (AreStandsOf part snapshots) (sym same) stands) in
          record {
            snapshots = own;
            are = taken;
            seen = ap (λ (k : StandList). k.seen) is_kept.is;
            support = ap (λ (k : StandList). k.support) is_kept.is;
            stands = subst (λ (told : Option (List Next)). TellNext part least (prefixes ++ next.rank ∷ []) own kept.stands told kept.bytes) (sym (ap (λ (k : StandList). k.next) is_kept.is))
                (subst (TellNext part least (prefixes ++ next.rank ∷ []) own kept.stands None) (sym (ap (λ (k : StandList). k.bytes) is_kept.is)) plain);
          }

  -- so of each rank that was found
  pub ahead-projected : weights ≡ [] → length part.problem.ranking.order < 256 → (behinds : List Behind)
      → ((behind : Behind) → Contains behinds behind → lacking aim ≡ Some behind.rank → ⊥) → AreCountedAhead course ranks (lacking aim) sequences behinds → (run : List Stand)
      → ((next : NextRank) → Contains found next → lacking aim ≡ Some next.rank → next.first < next.last
      → slice_range run 0 (next.last - next.first) ≡ stands_of ranks aim next.rank sequences)
      → (next : NextRank) → Contains found next → (kept : StandList) → IsKeptAhead aim least behinds run next kept → IsProjected part least (prefixes ++ next.rank ∷ []) kept
  ahead-projected light few behinds apart ahead run filed next held kept is_kept =
      let (tally, at, heavy, told) = are_next.right next held in
      let count = counted next.rank tally at in
      let follows' = follow next.rank tally.weight (weight-all ranks aim weights next.rank visits sequences tally count) in
      let (low, high) = follow-ranked part is prefixes list are next.rank tally.weight follows' (omega arith) in
      let support : IsSupportOf part (prefixes ++ next.rank ∷ []) next.support =
      subst (IsSupportOf part (prefixes ++ next.rank ∷ [])) (sym told.support) (supported next.rank tally.support (support-all ranks aim weights next.rank visits sequences tally count)) in
      elim is_kept [
        | inl is_told ↦ told-by next held low high tally told count support light few behinds apart ahead kept is_told
        | inr stands ↦ standing-by next held low high tally told count support run (filed next held) kept stands
      ]

-- ---- from what was found in the part

module _ (part : GridList) (is : IsPart part) (least : ℕ) (some : 1 ≤ least) (room : ℕ) (most : length part.problem.ranking.order < room)
    (prefixes : List ℕ) (kept : StandList) (projected : IsProjected part least prefixes kept) (aim : Aim) (seen : aim.seen ≡ kept.seen)
    (need : aim.need ≡ part.bound.need) (untold : kept.next ≡ None) (loose : kept.bytes ≡ None) (any : 0 < length kept.stands) (found : List NextRank) (run : List Stand)
    (longer : Option (List StandList)) (is_found : IsFoundIn part aim least room kept.stands found run longer) where
  abbrev own : Aim
  own = aim_of part projected.snapshots.seen

  same : aim ≡ own
  same = aim-same part aim projected.snapshots.seen (seen ∙ projected.seen) need

  moved : IsFoundIn part own least room kept.stands found run longer
  moved = subst (λ (a : Aim). IsFoundIn part a least room kept.stands found run longer) same is_found

  module _ (all : List StandList) (told : longer ≡ Some all) where
    ahead : AreAhead (course_over moved.rows moved.value own) (ranks_of moved.value.table) own moved.weights least room kept.stands found all
    ahead = subst (λ (o : Option (List StandList)). IfSome o (AreAhead (course_over moved.rows moved.value own) (ranks_of moved.value.table) own moved.weights least room kept.stands found))
        told moved.found_are.ahead

    ahead-each : (next : NextRank) → Contains found next → (list : StandList) → IsKeptAhead own least ahead.behinds ahead.run next list → IsProjected part least (prefixes ++ next.rank ∷ []) list
    ahead-each =
        let list : SnapshotList = projected.snapshots in
        let stands_are = some-stands part is least some prefixes kept projected untold loose any in
        let (groups, groups_are, groups_in, all_grids) = stands-cut part is prefixes list projected.are stands_are.grids kept.stands stands_are.rising stands_are.are in
        let fact = moved.found_are in
        let summed = fact.summed groups groups_are in
        let visited = walked-whole (course_over moved.rows moved.value own) groups summed.visits summed.walk in
        let value = moved.value in
        let few : room ≤ 256 = ahead.few in
        ahead-projected part is moved.width moved.rows moved.ground.rows_are value.places value.early value.late (ranks_of value.table) (CanAskOf value.table) moved.ground.records_are
        prefixes list projected.are stands_are.grids stands_are.rising all_grids groups groups_in summed.walk.sequences visited
        moved.weights moved.weights_are least some summed.visits summed.walk.cut_are fact.tallies summed.tallied found fact.next
        ahead.light (omega arith) ahead.behinds ahead.apart (ahead.counted groups summed.walk.sequences groups_are visited) ahead.run
        (λ next held lacked places. ahead.filed next held lacked places groups summed.walk.sequences groups_are visited)

    -- where what may follow and what is kept were listed side by side
    pub ahead-all : (next : List Next) → next ≡ map told_of found → (i : ℕ) (n : Next) (list : StandList) → slice_get next i ≡ Some n → slice_get all i ≡ Some list
        → IsProjected part least (prefixes ++ n.rank ∷ []) list
    ahead-all next nexts i n list at beside =
        let here : slice_get (map told_of found) i ≡ Some n = subst (λ (l : List Next). slice_get l i ≡ Some n) nexts at in
        let inside : i < length found = subst (λ (k : ℕ). i < k) (length-map found told_of) (slice_get_within (map told_of found) i n here) in
        let (one, there) = get-some found i inside in
        let n_is : told_of one ≡ n = same_Some (told_of one) n (sym (slice_get-mapped_by told_of found i one there) ∙ here) in
        subst (λ (m : Next). IsProjected part least (prefixes ++ m.rank ∷ []) list) n_is
        (ahead-each one (get-held found i one there) list (zip-at (IsKeptAhead own least ahead.behinds ahead.run) found all ahead.kept i one list there beside))

  -- in either case
  pub grown-longer : (next : List Next) (all : List StandList) → next ≡ map told_of found
      → (longer ≡ None → AllZip (IsKeptOf part least prefixes) found all)
      → IfSome longer (λ ahead. all ≡ ahead) → (i : ℕ) (n : Next) (list : StandList) → slice_get next i ≡ Some n → slice_get all i ≡ Some list
      → IsProjected part least (prefixes ++ n.rank ∷ []) list
  grown-longer next all nexts filed told i n list at beside = by longer refl
    where
      by : (o : Option (List StandList)) → longer ≡ o → IsProjected part least (prefixes ++ n.rank ∷ []) list
      by None none =
          let here : slice_get (map told_of found) i ≡ Some n = subst (λ (l : List Next). slice_get l i ≡ Some n) nexts at in
          let inside : i < length found = subst (λ (k : ℕ). i < k) (length-map found told_of) (slice_get_within (map told_of found) i n here) in
          let (one, there) = get-some found i inside in
          let n_is : told_of one ≡ n = same_Some (told_of one) n (sym (slice_get-mapped_by told_of found i one there) ∙ here) in
          subst (λ (m : Next). IsProjected part least (prefixes ++ m.rank ∷ []) list) n_is
          (zip-at (IsKeptOf part least prefixes) found all (filed none) i one list there beside)
      by (Some those) some_are =
          let same_all : all ≡ those = subst (λ (o : Option (List StandList)). IfSome o (λ l. all ≡ l)) some_are told in
          ahead-all those some_are next nexts i n list at (subst (λ (l : List StandList). slice_get l i ≡ Some list) same_all beside)

  -- one for each
  pub grown-count : (all : List StandList) → (longer ≡ None → AllZip (IsKeptOf part least prefixes) found all) → IfSome longer (λ ahead. all ≡ ahead)
      → length all ≡ length found
  grown-count all filed told = by longer refl
    where
      by : (o : Option (List StandList)) → longer ≡ o → length all ≡ length found
      by None none = AllZip-long (IsKeptOf part least prefixes) found all (filed none)
      by (Some those) some_are =
          let same_all : all ≡ those = subst (λ (o : Option (List StandList)). IfSome o (λ l. all ≡ l)) some_are told in
          ap length same_all ∙ AllZip-long (IsKeptAhead own least (ahead those some_are).behinds (ahead those some_are).run) found those (ahead those some_are).kept
