-- What follows longer prefixes, from what was counted behind the visits of all sequences.
use Rattle.std.proofs.Common.{◌≡◌, ◌↔◌, ℕ, ◌≤◌, ◌<◌, inl, inr, Some, Option, List, [], ◌∷◌, ◌++◌, length, map, replicate, refl, sym, ap, ◌∙◌, subst, arith}
use Rattle.std.specs.List.{AllPairs, AllZip, Contains, slice_get, slice_index}
use Rattle.std.proofs.lemmas.List.{get_or-replicate}
use Rattle.std.proofs.lemmas.Option.{slice_get-get_or, get_or_from_slice_get}
use Rattle.mine_model.specs.declared.item.Item.{Item}
use Rattle.mine_model.specs.Support.{Counts}
use Rattle.mine_model.proofs.AliveLemmas.{WeighAtLeast-counted}
use Rattle.mine_model.proofs.ListLemmas.{Contains-first, Contains-other, Contains-by, Contains-from}
use Rattle.mining_job.specs.Problems.{items_of}
use Rattle.sequence_grids.specs.Grids.{GridList}
use Rattle.sequence_grids.specs.Successors.{AreSuccessors}
use Rattle.walk_memo.specs.Moves.{MoveSets}
use Rattle.walk_places.specs.declared.places.Record.{Record}
use Rattle.place_walk.specs.declared.stand.Stand.{Stand}
use Rattle.place_walk.specs.declared.visit.Visit.{Visit}
use Rattle.place_walk.specs.Courses.{Course}
use Rattle.place_walk.specs.Visits.{AreVisits}
use Rattle.stand_sums.specs.Writings.{Ranks, ends}
use Rattle.stand_sums.specs.Sequences.{all_weighed}
use Rattle.mask_sums.specs.Kept.{lacks, lacking}
use Rattle.level_ahead.specs.declared.next_of.NextOf.{NextOf}
use Rattle.level_ahead.specs.Behind.{HasBehind, FollowsBehind, GoesOnBehind}
use Rattle.level_ahead.specs.Counts.{Behind, AreAdded, AreReaching}
use Rattle.place_records.specs.Records.{AreRecords}
use Rattle.snapshot_project.specs.declared.next_rank.NextRank.{NextRank}
use Rattle.snapshot_project.specs.declared.snapshot.Snapshot.{Snapshot}
use Rattle.snapshot_project.specs.Ahead.{next_of}
use Rattle.snapshot_project.specs.Aims.{goes}
use Rattle.snapshot_project.specs.Extensions.{sequences_of, GrowsBehind, GeneratesWithin, CanFollow, IsSupportOf}
use Rattle.snapshot_project.specs.Grouped.{course_for, IsGroupIn, AreGroupsIn, AreAllGrids, AreWeights}
use Rattle.snapshot_project.specs.Live.{OpensNext}
use Rattle.snapshot_project.specs.Snapshots.{IsPart, SnapshotList, AreSnapshots}
use Rattle.snapshot_project.specs.Stands.{IsLast, AreLastRanks}
use Rattle.snapshot_project.proofs.AheadLemmas.{kid_list, kid-are, kid-grows, kid-generates, kid-goes, ends-quiet, ends-follow}
use Rattle.snapshot_project.proofs.ExtensionLemmas.{grows-next, generates-next}
use Rattle.snapshot_project.proofs.GroupLemmas.{zip-known}
use Rattle.snapshot_project.proofs.ListedLemmas.{writes-listed, follows-opens}
use Rattle.snapshot_project.proofs.LongerLemmas.{aim_of, AreVisitsIn, groups-visits}
use Rattle.snapshot_project.proofs.NextLemmas.{pairs-mapped, weighs-rank}
use Rattle.snapshot_project.proofs.SumLemmas.{groups-counted}
use Rattle.snapshot_project.proofs.VisitNextLemmas.{visit-within, opens-visit}

-- what holds of the same of these sequences weighs the same
counts-alike : (weights : List ℕ) (One Other : List Visit → Type 0) (sequences : List (List Visit))
    → ((here : List Visit) → Contains sequences here → One here ↔ Other here)
    → (n : ℕ) → Counts One (all_weighed weights sequences) n → Counts Other (all_weighed weights sequences) n
counts-alike weights One Other [] alike n none = none
counts-alike weights One Other (here ∷ sequences) alike n (inl (has, (rest, sum, counts))) =
    inl (
      (alike here (Contains-first here sequences)).0 has,
      (rest, sum, counts-alike weights One Other sequences (λ other held. alike other (Contains-other here sequences other held)) rest counts),
    )
counts-alike weights One Other (here ∷ sequences) alike n (inr (lacks, counts)) =
    inr (
      (λ has. lacks ((alike here (Contains-first here sequences)).1 has)),
      counts-alike weights One Other sequences (λ other held. alike other (Contains-other here sequences other held)) n counts,
    )

module _ (part : GridList) (is : IsPart part) (width : ℕ) (rows : List ℕ) (rows_are : AreSuccessors width part.problem.transducer rows)
    (places : List Record) (early late : List MoveSets) (ranks : Ranks) (CanAsk : ℕ → ℕ → Type 0) (records : AreRecords part places early late ranks CanAsk)
    (prefixes : List ℕ) (list : SnapshotList) (are : AreSnapshots part prefixes list)
    (grids : List ℕ) (rising : AllPairs (λ low high. low < high) grids) (all_grids : AreAllGrids part list.snapshots grids)
    (groups : List (List Stand)) (groups_are : AreGroupsIn part are.prefix list.seen grids groups)
    (sequences : List (List Visit)) (visits_are : AllZip (AreVisits (course_for rows places early late (goes list.seen part.bound.need))) groups sequences) where
  abbrev pub course : Course
  course = course_for rows places early late (goes list.seen part.bound.need)

  abbrev pub lack : Option ℕ
  lack = lacking (aim_of part list.seen)

  some-visits : (rank : ℕ) (grids : List ℕ) (groups : List (List Stand)) (sequences : List (List Visit)) → AreGroupsIn part are.prefix list.seen grids groups
      → AllZip (AreVisits course) groups sequences → AllZip (AreVisitsIn part are.prefix list.seen ranks rank) grids sequences
  some-visits =
      groups-visits part is prefixes list are ranks course
      (λ grid group here those exact. visit-within part is width rows rows_are places early late ranks CanAsk records are.prefix list.seen grid group here (Contains those) exact.exact)
      (λ grid group here those exact rank. opens-visit part is width rows rows_are places early late ranks CanAsk records are.prefix list.seen grid group here (Contains those) exact.exact rank)

  pub visits-in : (rank : ℕ) → AllZip (AreVisitsIn part are.prefix list.seen ranks rank) grids sequences
  visits-in rank = some-visits rank grids groups sequences groups_are visits_are

  pub told-at : (rank grid : ℕ) (group : List Stand) → IsGroupIn part are.prefix list.seen grid group → (those : List Visit) → AreVisits course group those
      → AreVisitsIn part are.prefix list.seen ranks rank grid those
  told-at rank grid group here those exact = (some-visits rank (grid ∷ []) (group ∷ []) (those ∷ []) (here, tt) (exact, tt)).0

  module _ (rank : ℕ) (low : 1 ≤ rank) (high : rank ≤ part.bound.top) (support : ℕ) (is_support : IsSupportOf part (prefixes ++ rank ∷ []) support) where
    abbrev pub longer_ranks : List ℕ
    longer_ranks = prefixes ++ rank ∷ []

    abbrev pub kid : SnapshotList
    kid = kid_list part is width rows rows_are places early late ranks CanAsk records prefixes list are rank low high support is_support grids rising all_grids sequences (visits-in rank)

    pub kid-is : AreSnapshots part longer_ranks kid
    kid-is = kid-are part is width rows rows_are places early late ranks CanAsk records prefixes list are rank low high support is_support grids rising all_grids sequences (visits-in rank)

    -- what grows behind the longer prefix is in a sequence of the list
    grows-listed : (other i : ℕ) → Contains part.sequences i → GrowsBehind part (longer_ranks ++ other ∷ []) (items_of part.problem i)
        → (snapshot : Snapshot) × Contains list.snapshots snapshot × (snapshot.sequence ≡ i)
    grows-listed other i known grows =
        let (position, state, (before, next, writes, completes)) = follows-opens part is.whole prefixes list are (items_of part.problem i) rank other grows in
        writes-listed part is.whole prefixes list are i known rank before state writes

    generates-grows : (other : ℕ) (items : List Item) → GeneratesWithin part (longer_ranks ++ other ∷ []) items → GrowsBehind part (longer_ranks ++ other ∷ []) items
    generates-grows other items generates =
        let (position, state, next) = (generates-next part is.whole kid-is.prefix longer_ranks kid-is.ranked kid-is.top items other).0 generates in
        (grows-next part is.whole kid-is.prefix longer_ranks kid-is.ranked kid-is.top items other).1 (position, state, next.0)

    -- where nothing goes on behind the rank, nothing follows behind the other one
    kid-last : (lack ≡ Some rank → ⊥) → ((here : List Visit) → Contains sequences here → GoesOnBehind course ranks lack rank here → ⊥) → (other : ℕ) → IsLast part (longer_ranks ++ other ∷ [])
    unfolding kid-is
    kid-last apart quiet other i further known grows =
        let (position, state, opening) = follows-opens part is.whole longer_ranks kid kid-is (items_of part.problem i) other further grows in
        let (before, position_is, writes, completes) = opening in
        let here : GrowsBehind part (longer_ranks ++ other ∷ []) (items_of part.problem i) =
        (grows-next part is.whole kid-is.prefix longer_ranks kid-is.ranked kid-is.top (items_of part.problem i) other).1 (before, state, writes) in
        let (snapshot, held, same) = grows-listed other i known here in
        let (grid, inside, number) = known in
        let at : slice_get part.sequences grid ≡ Some i = slice_get-get_or part.sequences grid i inside ∙ ap Some number in
        let among : Contains grids grid = all_grids grid snapshot held (at ∙ ap Some (sym same)) in
        let (visits, there, told) = zip-known (AreVisitsIn part are.prefix list.seen ranks rank) grids sequences (visits-in rank) grid among in
        let index : i ≡ slice_index part.sequences grid = sym (get_or_from_slice_get part.sequences grid i 0 at) in
        quiet visits there
        (kid-goes part is width rows rows_are places early late ranks CanAsk records prefixes list are rank low high support is_support grids rising all_grids sequences (visits-in rank) apart
        grid visits told other position state
        (subst (λ (k : ℕ). OpensNext part.problem part.bound (items_of part.problem k) kid-is.prefix kid.seen other position state) index opening))

    -- ---- what was counted

    module _ (weights : List ℕ) (weigh : AreWeights part weights) (apart : lack ≡ Some rank → ⊥) where
      kid-follows : (other n : ℕ) → Counts (FollowsBehind course ranks lack rank other) (all_weighed weights sequences) n → CanFollow part longer_ranks other n
      kid-follows other =
          groups-counted part is ranks (aim_of part list.seen) prefixes list are course
          (λ grid group here those exact. visit-within part is width rows rows_are places early late ranks CanAsk records are.prefix list.seen grid group here (Contains those) exact.exact)
          grids rising all_grids groups groups_are sequences visits_are weights weigh
          (GrowsBehind part (longer_ranks ++ other ∷ [])) (FollowsBehind course ranks lack rank other) (λ visits has. (has.visit, has.held))
          (λ grid group here those exact.
          kid-grows part is width rows rows_are places early late ranks CanAsk records prefixes list are rank low high support is_support grids rising all_grids sequences (visits-in rank) apart
          grid those (told-at rank grid group here those exact) other)
          (grows-listed other)

      kid-supports : (other n : ℕ) → Counts (HasBehind course ranks lack rank (ends ranks (lacks lack) other)) (all_weighed weights sequences) n → IsSupportOf part (longer_ranks ++ other ∷ []) n
      kid-supports other =
          groups-counted part is ranks (aim_of part list.seen) prefixes list are course
          (λ grid group here those exact. visit-within part is width rows rows_are places early late ranks CanAsk records are.prefix list.seen grid group here (Contains those) exact.exact)
          grids rising all_grids groups groups_are sequences visits_are weights weigh
          (GeneratesWithin part (longer_ranks ++ other ∷ [])) (HasBehind course ranks lack rank (ends ranks (lacks lack) other)) (λ visits has. (has.visit, has.held))
          (λ grid group here those exact.
          kid-generates part is width rows rows_are places early late ranks CanAsk records prefixes list are rank low high support is_support grids rising all_grids sequences (visits-in rank) apart
          grid those (told-at rank grid group here those exact) other)
          (λ i known generates. grows-listed other i known (generates-grows other (items_of part.problem i) generates))

      module _ (light : weights ≡ []) (behind : Behind) (rank_is : behind.rank ≡ rank)
          (added : AreAdded course ranks lack sequences (record { rank = behind.rank; counts = replicate 256 0 }) behind) where
        quiet : (here : List Visit) → Contains sequences here → GoesOnBehind course ranks lack rank here → ⊥
        quiet here held = subst (λ (r : ℕ). GoesOnBehind course ranks lack r here → ⊥) rank_is (added.ended here held)

        counted : (other : ℕ) → other < 256 → Counts (FollowsBehind course ranks lack rank other) (all_weighed weights sequences) (slice_index behind.counts other)
        counted other few =
            let (n, counts, sum) = added.counted other few in
            let none : slice_index (replicate 256 0) other ≡ 0 = get_or-replicate 256 other 0 0 few in
            let same : n ≡ slice_index behind.counts other = omega arith in
            subst (λ (w : List ℕ). Counts (FollowsBehind course ranks lack rank other) (all_weighed w sequences) (slice_index behind.counts other)) (sym light)
            (subst (λ (r : ℕ). Counts (FollowsBehind course ranks lack r other) (all_weighed [] sequences) (slice_index behind.counts other)) rank_is
            (subst (Counts (FollowsBehind course ranks lack behind.rank other) (all_weighed [] sequences)) same counts))

        follows-there : (other : ℕ) → other < 256 → CanFollow part longer_ranks other (slice_index behind.counts other)
        follows-there other few = kid-follows other (slice_index behind.counts other) (counted other few)

        -- what follows also ends
        supports-there : (other : ℕ) → other < 256 → IsSupportOf part (longer_ranks ++ other ∷ []) (slice_index behind.counts other)
        supports-there other few =
            kid-supports other (slice_index behind.counts other)
            (counts-alike weights (FollowsBehind course ranks lack rank other) (HasBehind course ranks lack rank (ends ranks (lacks lack) other)) sequences
            (λ here held. (ends-quiet course ranks lack rank other here (quiet here held), ends-follow course ranks lack rank other here))
            (slice_index behind.counts other) (counted other few))

        -- so what was counted is what follows the longer prefix
        pub kid-told : (least : ℕ) → 1 ≤ least → length part.problem.ranking.order < 256 → (told : List NextOf) → AreReaching least behind.counts told
            → AreLastRanks part least longer_ranks (map next_of told)
        kid-told least some most told reaching = record {
          are = record {
            rising = pairs-mapped (λ (one two : NextOf). one.rank < two.rank) (λ (one two : NextRank). one.rank < two.rank) next_of (λ one two less. less) told reaching.rising;
            right = λ next held.
                let (one, inside, same) = Contains-from next_of told next held in
                let (few, count_is, heavy) = (reaching.exact one).0 inside in
                subst (λ (n : NextRank). (least ≤ n.weight) × CanFollow part longer_ranks n.rank n.weight × IsSupportOf part (longer_ranks ++ n.rank ∷ []) n.support) (sym same) (
                  heavy,
                  subst (CanFollow part longer_ranks one.rank) (sym count_is) (follows-there one.rank few),
                  subst (IsSupportOf part (longer_ranks ++ one.rank ∷ [])) (sym count_is) (supports-there one.rank few),
                );
            all = λ other weighs.
                let (least_rank, within) = weighs-rank part is longer_ranks kid kid-is other least some weighs in
                let top : part.bound.top ≤ length part.problem.ranking.order = is.top in
                let few : other < 256 = omega arith in
                let reached : least ≤ slice_index behind.counts other =
                (WeighAtLeast-counted (GrowsBehind part (longer_ranks ++ other ∷ [])) (sequences_of part) (slice_index behind.counts other) least (follows-there other few)).0 weighs in
                let next : NextOf = record { rank = other; count = slice_index behind.counts other } in
                (next_of next, Contains-by next_of told next ((reaching.exact next).1 (few, refl, reached)), refl);
          };
          last = λ next held. kid-last apart quiet next.rank;
        }
