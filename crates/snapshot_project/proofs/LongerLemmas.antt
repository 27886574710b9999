-- The stands of a prefix that is longer by one rank, from the visits of each sequence.
use Rattle.std.proofs.Common.{◌≡◌, ◌↔◌, ℕ, ◌+◌, ◌-◌, ◌≤◌, ◌<◌, inl, inr, Bool, true, false, IsTrue, Some, List, [], ◌∷◌, ◌++◌, length, map, get_or, refl, sym, ap, ◌∙◌, subst, arith}
use Rattle.std.specs.List.{AllPairs, AllZip, Contains, filter, slice_get, slice_index}
use Rattle.std.proofs.lemmas.List.Elements.{Contains-append_cases, Contains-append_left, Contains-append_right}
use Rattle.std.proofs.lemmas.List.{get_or_default}
use Rattle.std.proofs.lemmas.List.Kept.{AllPairs-cons, AllPairs-filter}
use Rattle.std.proofs.lemmas.Option.{same_Some, slice_get-get_or, slice_get_within, get_or_from_slice_get}
use Rattle.mine_model.specs.declared.item.Item.{Item}
use Rattle.mine_model.specs.Ranks.{HasRank}
use Rattle.mine_model.proofs.ElementLemmas.{get-some, get-held}
use Rattle.mine_model.proofs.ListLemmas.{Contains-cases, Contains-first, Contains-other, Contains-none, Contains-by, Contains-from, Contains-filter, filter-Contains, AllPairs-head, AllPairs-tail, AllPairs-append}
use Rattle.mining_job.specs.Problems.{items_of}
use Rattle.sequence_grids.specs.Grids.{GridList, items_at}
use Rattle.place_walk.specs.declared.stand.Stand.{Stand}
use Rattle.place_walk.specs.declared.visit.Visit.{Visit}
use Rattle.place_walk.specs.Courses.{Course}
use Rattle.place_walk.specs.Groups.{IsGroup}
use Rattle.place_walk.specs.Visits.{IsBefore, AreVisits}
use Rattle.stand_sums.specs.declared.aim.Aim.{Aim}
use Rattle.stand_sums.specs.Writings.{Ranks, opens}
use Rattle.stand_sums.specs.Files.{stand_at, stands_at, stands_in, stands_of}
use Rattle.place_records.specs.Records.{start_of}
use Rattle.snapshot_project.specs.declared.snapshot.Snapshot.{Snapshot}
use Rattle.snapshot_project.specs.Aims.{sees}
use Rattle.snapshot_project.specs.Snapshots.{IsPart, ComesBefore, SnapshotList, AreSnapshots}
use Rattle.snapshot_project.specs.Extensions.{IsSupportOf}
use Rattle.snapshot_project.specs.Live.{OpensNext}
use Rattle.snapshot_project.specs.Stands.{IsStandOf, IsGroupOf, AreStandsIn, AreStandsOf}
use Rattle.snapshot_project.specs.Grouped.{IsGroupIn, AreGroupsIn, AreAllGrids}
use Rattle.snapshot_project.proofs.GroupLemmas.{group-in}
use Rattle.snapshot_project.proofs.ListedLemmas.{writes-listed, snapshots-longer}
use Rattle.snapshot_project.proofs.UniqueLemmas.{pairs-map}
use Rattle.level_ahead.proofs.StandLemmas.{group-at as stands-group}

-- what a prefix asks of what is written behind it
abbrev pub aim_of : GridList → Bool → Aim
aim_of part seen = record { seen = seen; need = part.bound.need }

-- ---- the visits of one sequence

-- the visits of the sequence of a grid rise, lie within it, and tell where the prefix with the rank opens there
pub record AreVisitsIn (part : GridList) (prefix : List Item) (seen : Bool) (ranks : Ranks) (rank grid : ℕ) (visits : List Visit) : Type 0 where
  pub at : slice_get part.sequences grid ≡ Some (slice_index part.sequences grid)
  pub rising : AllPairs IsBefore visits
  pub within : (visit : Visit) → Contains visits visit
      → (position : ℕ) × (position < length (items_at part grid)) × (visit.place ≡ start_of part grid + (position + 1))
  pub opening : (position state : ℕ) → OpensNext part.problem part.bound (items_at part grid) prefix seen rank position state
      ↔ ((visit : Visit) × Contains visits visit × (visit.place ≡ start_of part grid + position) × (visit.action.state ≡ state)
      × IsTrue (opens ranks (aim_of part seen) rank visit))

-- where a path stands behind a visit
abbrev snapshot_at : GridList → ℕ → Visit → Snapshot
snapshot_at part grid visit =
    record { sequence = slice_index part.sequences grid; position = visit.place - start_of part grid; state = visit.action.state }

-- behind each visit that writes the rank and goes on
abbrev snapshots_in : GridList → Bool → Ranks → ℕ → ℕ → List Visit → List Snapshot
snapshots_in part seen ranks rank grid visits = map (snapshot_at part grid) (filter (opens ranks (aim_of part seen) rank) visits)

-- in one sequence after another
abbrev pub snapshots_along : GridList → Bool → Ranks → ℕ → List ℕ → List (List Visit) → List Snapshot
snapshots_along part seen ranks rank [] sequences = []
snapshots_along part seen ranks rank (grid ∷ grids) [] = []
snapshots_along part seen ranks rank (grid ∷ grids) (visits ∷ sequences) =
    snapshots_in part seen ranks rank grid visits ++ snapshots_along part seen ranks rank grids sequences

-- ---- marks of stands

module _ (part : GridList) (prefix : List Item) (seen : Bool) (ranks : Ranks) (rank : ℕ) where
  -- the prefix with the rank opens there
  abbrev Opens : ℕ → Snapshot → Type 0
  Opens sequence snapshot = OpensNext part.problem part.bound (items_of part.problem sequence) prefix seen rank snapshot.position snapshot.state

  module _ (grid : ℕ) (visits : List Visit) (are : AreVisitsIn part prefix seen ranks rank grid visits) where
    in-rising : AllPairs ComesBefore (snapshots_in part seen ranks rank grid visits)
    in-rising =
        let test : Visit → Bool = opens ranks (aim_of part seen) rank in
        pairs-map IsBefore ComesBefore (snapshot_at part grid) (filter test visits) (λ one other here there before.
        let (low, low_within, low_is) = are.within one (Contains-filter test visits one here).0 in
        let (high, high_within, high_is) = are.within other (Contains-filter test visits other there).0 in
        inr (
          refl,
          elim before [
            | inl less ↦ inl (omega arith)
            | inr (same, less) ↦ inr (omega arith, less)
          ],
        ))
        (AllPairs-filter IsBefore test visits are.rising)

    in-held : (snapshot : Snapshot) → Contains (snapshots_in part seen ranks rank grid visits) snapshot
        → (snapshot.sequence ≡ slice_index part.sequences grid) × Opens (slice_index part.sequences grid) snapshot
    in-held snapshot held =
        let test : Visit → Bool = opens ranks (aim_of part seen) rank in
        let (visit, kept, is) = Contains-from (snapshot_at part grid) (filter test visits) snapshot held in
        let (among, passes) = Contains-filter test visits visit kept in
        let (place, inside, place_is) = are.within visit among in
        let position_is : snapshot.position ≡ visit.place - start_of part grid = ap (λ (s : Snapshot). s.position) is in (
          ap (λ (s : Snapshot). s.sequence) is,
          (are.opening snapshot.position snapshot.state).1 (visit, among, omega arith, sym (ap (λ (s : Snapshot). s.state) is), passes),
        )

    in-back : (snapshot : Snapshot) → snapshot.sequence ≡ slice_index part.sequences grid → Opens (slice_index part.sequences grid) snapshot
        → Contains (snapshots_in part seen ranks rank grid visits) snapshot
    in-back snapshot same opening =
        let test : Visit → Bool = opens ranks (aim_of part seen) rank in
        let (visit, among, place_is, state_is, passes) = (are.opening snapshot.position snapshot.state).0 opening in
        let position_is : visit.place - start_of part grid ≡ snapshot.position = omega arith in
        let one : snapshot_at part grid visit ≡ snapshot = λ i. record { sequence = sym same i; position = position_is i; state = state_is i } in
        subst (Contains (snapshots_in part seen ranks rank grid visits)) one
        (Contains-by (snapshot_at part grid) (filter test visits) visit (filter-Contains test visits visit among passes))

    stand-one : (mark : Bool) (visit : Visit) → Contains visits visit → IsStandOf part grid (snapshot_at part grid visit) (stand_at mark visit)
    stand-one mark visit among =
        let (place, inside, place_is) = are.within visit among in
        record { sequence = are.at; place = omega arith; state = refl }

    stands-plain : (some : List Visit) → ((visit : Visit) → Contains some visit → Contains visits visit)
        → AllZip (IsStandOf part grid) (map (snapshot_at part grid) some) (map (stand_at false) some)
    stands-plain [] all = tt
    stands-plain (visit ∷ some) all =
        (stand-one false visit (all visit (Contains-first visit some)), stands-plain some (λ other held. all other (Contains-other visit some other held)))

    in-group : (visit : Visit) (some : List Visit) → ((one : Visit) → Contains (visit ∷ some) one → Contains visits one)
        → IsGroupOf part grid (map (snapshot_at part grid) (visit ∷ some)) (stands_at (visit ∷ some))
    in-group visit some all = record {
      marked = stands-group visit some;
      are = (
        stand-one true visit (all visit (Contains-first visit some)),
        stands-plain some (λ other held. all other (Contains-other visit some other held)),
      );
    }

  -- ---- all sequences

  along-held : (grids : List ℕ) (sequences : List (List Visit)) → AllZip (AreVisitsIn part prefix seen ranks rank) grids sequences → (snapshot : Snapshot)
      → Contains (snapshots_along part seen ranks rank grids sequences) snapshot
      → (grid : ℕ) × Contains grids grid × (slice_get part.sequences grid ≡ Some snapshot.sequence) × Opens snapshot.sequence snapshot
  along-held [] sequences all snapshot held = absurd (Contains-none snapshot held)
  along-held (grid ∷ grids) [] all snapshot held = absurd all
  along-held (grid ∷ grids) (visits ∷ sequences) (are, others) snapshot held =
      elim (Contains-append_cases (snapshots_in part seen ranks rank grid visits) (snapshots_along part seen ranks rank grids sequences) snapshot held) [
        | inl here ↦
            let (same, opening) = in-held grid visits are snapshot here in (
              grid,
              Contains-first grid grids,
              are.at ∙ ap Some (sym same),
              subst (λ (i : ℕ). Opens i snapshot) (sym same) opening,
            )
        | inr there ↦
            let (other, among, at, opening) = along-held grids sequences others snapshot there in
            (other, Contains-other grid grids other among, at, opening)
      ]

  along-back : (grids : List ℕ) (sequences : List (List Visit)) → AllZip (AreVisitsIn part prefix seen ranks rank) grids sequences → (snapshot : Snapshot) (grid : ℕ)
      → Contains grids grid → slice_get part.sequences grid ≡ Some snapshot.sequence → Opens snapshot.sequence snapshot
      → Contains (snapshots_along part seen ranks rank grids sequences) snapshot
  along-back [] sequences all snapshot grid held at opening = absurd (Contains-none grid held)
  along-back (first ∷ grids) [] all snapshot grid held at opening = absurd all
  along-back (first ∷ grids) (visits ∷ sequences) (are, others) snapshot grid held at opening = elim (Contains-cases first grids grid held) [
    | inl here ↦
        let same : snapshot.sequence ≡ slice_index part.sequences first =
        same_Some snapshot.sequence (slice_index part.sequences first) (sym at ∙ ap (slice_get part.sequences) here ∙ are.at) in
        Contains-append_left (snapshots_in part seen ranks rank first visits) (snapshots_along part seen ranks rank grids sequences) snapshot
        (in-back first visits are snapshot same (subst (λ (i : ℕ). Opens i snapshot) same opening))
    | inr there ↦
        Contains-append_right (snapshots_in part seen ranks rank first visits) (snapshots_along part seen ranks rank grids sequences) snapshot
        (along-back grids sequences others snapshot grid there at opening)
  ]

  numbers-rise : IsPart part → (low high i later : ℕ) → low < high → slice_get part.sequences low ≡ Some i → slice_get part.sequences high ≡ Some later → i < later
  numbers-rise is low high i later less at_low at_high =
      subst (λ (n : ℕ). n < later) (get_or_from_slice_get part.sequences low i later at_low)
      (subst (λ (n : ℕ). get_or part.sequences low later < n) (get_or_from_slice_get part.sequences high later later at_high)
      (is.rising low high later less (slice_get_within part.sequences high later at_high)))

  along-rising : IsPart part → (grids : List ℕ) (sequences : List (List Visit)) → AllZip (AreVisitsIn part prefix seen ranks rank) grids sequences
      → AllPairs (λ low high. low < high) grids → AllPairs ComesBefore (snapshots_along part seen ranks rank grids sequences)
  along-rising is [] sequences all rising = λ i j d less inside. absurd (omega arith)
  along-rising is (grid ∷ grids) [] all rising = absurd all
  along-rising is (grid ∷ grids) (visits ∷ sequences) (are, others) rising =
      AllPairs-append ComesBefore (snapshots_in part seen ranks rank grid visits) (snapshots_along part seen ranks rank grids sequences) (in-rising grid visits are)
      (along-rising is grids sequences others (AllPairs-tail (λ low high. low < high) grid grids rising))
      (λ one other here there.
      let (same, opening) = in-held grid visits are one here in
      let (later, among, at, opening') = along-held grids sequences others other there in
      let less : slice_index part.sequences grid < other.sequence =
      numbers-rise is grid later (slice_index part.sequences grid) other.sequence (AllPairs-head (λ low high. low < high) grid grids rising later among) are.at at in
      inl (omega arith))

  -- the grids of sequences in which a visit opens
  along-stands : (grids : List ℕ) (sequences : List (List Visit)) → AllZip (AreVisitsIn part prefix seen ranks rank) grids sequences
      → AllPairs (λ low high. low < high) grids
      → (chosen : List ℕ) × ((grid : ℕ) → Contains chosen grid → Contains grids grid) × AllPairs (λ low high. low < high) chosen
      × AreStandsIn part chosen (snapshots_along part seen ranks rank grids sequences) (stands_of ranks (aim_of part seen) rank sequences)
  along-stands [] [] all rising = ([], (λ grid held. held), rising, (refl, refl))
  along-stands [] (visits ∷ sequences) all rising = absurd all
  along-stands (grid ∷ grids) [] all rising = absurd all
  along-stands (grid ∷ grids) (visits ∷ sequences) (are, others) rising =
      let test : Visit → Bool = opens ranks (aim_of part seen) rank in
      let (chosen, among, chosen_rise, stands) = along-stands grids sequences others (AllPairs-tail (λ low high. low < high) grid grids rising) in
      by chosen among chosen_rise stands (filter test visits) (λ visit held. (Contains-filter test visits visit held).0)
    where
      by : (chosen : List ℕ) → ((other : ℕ) → Contains chosen other → Contains grids other) → AllPairs (λ low high. low < high) chosen
          → AreStandsIn part chosen (snapshots_along part seen ranks rank grids sequences) (stands_of ranks (aim_of part seen) rank sequences)
          → (some : List Visit) → ((visit : Visit) → Contains some visit → Contains visits visit)
          → (chosen' : List ℕ) × ((other : ℕ) → Contains chosen' other → Contains (grid ∷ grids) other) × AllPairs (λ low high. low < high) chosen'
          × AreStandsIn part chosen' (map (snapshot_at part grid) some ++ snapshots_along part seen ranks rank grids sequences)
          (stands_at some ++ stands_of ranks (aim_of part seen) rank sequences)
      by chosen among chosen_rise stands [] all = (chosen, (λ other held. Contains-other grid grids other (among other held)), chosen_rise, stands)
      by chosen among chosen_rise stands (visit ∷ some) all = (
        grid ∷ chosen,
        (λ other held. elim (Contains-cases grid chosen other held) [
          | inl same ↦ subst (Contains (grid ∷ grids)) (sym same) (Contains-first grid grids)
          | inr there ↦ Contains-other grid grids other (among other there)
        ]),
        AllPairs-cons (λ low high. low < high) grid chosen
            (λ k d below. AllPairs-head (λ low high. low < high) grid grids rising (get_or chosen k d) (among (get_or chosen k d) (k, below, get_or_default chosen k (get_or chosen k d) d below)))
            chosen_rise,
        (
          map (snapshot_at part grid) (visit ∷ some),
          snapshots_along part seen ranks rank grids sequences,
          refl,
          stands_at (visit ∷ some),
          stands_of ranks (aim_of part seen) rank sequences,
          refl,
          in-group grid visits are visit some all,
          stands,
        ),
      )

-- ---- the longer prefix

module _ (part : GridList) (is : IsPart part) (prefixes : List ℕ) (list : SnapshotList) (are : AreSnapshots part prefixes list) (ranks : Ranks) (rank : ℕ)
    (grids : List ℕ) (rising : AllPairs (λ low high. low < high) grids) (all_grids : AreAllGrids part list.snapshots grids) (sequences : List (List Visit))
    (all : AllZip (AreVisitsIn part are.prefix list.seen ranks rank) grids sequences) where
  -- exactly the snapshots at which the prefix with the rank opens
  along-exact : (snapshot : Snapshot) → Contains (snapshots_along part list.seen ranks rank grids sequences) snapshot
      ↔ (Contains part.sequences snapshot.sequence × Opens part are.prefix list.seen ranks rank snapshot.sequence snapshot)
  along-exact snapshot = (
    (λ held.
        let (grid, among, at, opening) = along-held part are.prefix list.seen ranks rank grids sequences all snapshot held in
        (get-held part.sequences grid snapshot.sequence at, opening)),
    (λ (known, opening).
        let (before, position_is, writes, completes) = opening in
        let (first, held, same) = writes-listed part is.whole prefixes list are snapshot.sequence known rank before snapshot.state writes in
        let (grid, inside, sequence_is) = known in
        let at : slice_get part.sequences grid ≡ Some snapshot.sequence = slice_get-get_or part.sequences grid snapshot.sequence inside ∙ ap Some sequence_is in
        let among : Contains grids grid = all_grids grid first held (at ∙ ap Some (sym same)) in
        along-back part are.prefix list.seen ranks rank grids sequences all snapshot grid among at opening),
  )

  -- its snapshots
  abbrev pub longer_list : ℕ → SnapshotList
  longer_list support =
      record { seen = sees list.seen part.bound.need rank; support = support; snapshots = snapshots_along part list.seen ranks rank grids sequences }

  pub longer-are : (support : ℕ) → 1 ≤ rank → rank ≤ part.bound.top → IsSupportOf part (prefixes ++ rank ∷ []) support
      → AreSnapshots part (prefixes ++ rank ∷ []) (longer_list support)
  longer-are support least most is_support =
      let top : part.bound.top ≤ length part.problem.ranking.order = is.top in
      let (w, place) = get-some part.problem.ranking.order (rank - 1) (omega arith) in
      let has : HasRank part.problem.ranking.order w rank = record { least = least; place = place } in
      snapshots-longer part is.whole prefixes list are w rank has most (longer_list support) refl is_support
      (along-rising part are.prefix list.seen ranks rank is grids sequences all rising) along-exact

  -- those of one sequence
  pub longer-group : (support : ℕ) (least : 1 ≤ rank) (most : rank ≤ part.bound.top) (is_support : IsSupportOf part (prefixes ++ rank ∷ []) support)
      → (grid : ℕ) (visits : List Visit) → AreVisitsIn part are.prefix list.seen ranks rank grid visits
      → (visit : Visit) → Contains visits visit → IsTrue (opens ranks (aim_of part list.seen) rank visit)
      → IsGroupIn part (longer-are support least most is_support).prefix (longer_list support).seen grid (stands_in ranks (aim_of part list.seen) rank visits)
  longer-group support least most is_support grid visits at visit held passes =
      let test : Visit → Bool = opens ranks (aim_of part list.seen) rank in
      let kept : Contains (filter test visits) visit = filter-Contains test visits visit held passes in
      let known : Contains part.sequences (slice_index part.sequences grid) = get-held part.sequences grid (slice_index part.sequences grid) at.at in
      group-in part is (prefixes ++ rank ∷ []) (longer_list support) (longer-are support least most is_support) grid
      (snapshots_in part list.seen ranks rank grid visits) (stands_in ranks (aim_of part list.seen) rank visits)
      (by (filter test visits) (let (k, below, is_it) = kept in omega arith) (λ one there. (Contains-filter test visits one there).0))
      (in-rising part are.prefix list.seen ranks rank grid visits at)
      (λ snapshot there.
      let (same, opening) = in-held part are.prefix list.seen ranks rank grid visits at snapshot there in
      (along-exact snapshot).1 (
        subst (Contains part.sequences) (sym same) known,
        subst (λ (i : ℕ). Opens part are.prefix list.seen ranks rank i snapshot) (sym same) opening,
      ))
      (λ snapshot there its.
      let (sequence, opening) = (along-exact snapshot).0 there in
      let same : snapshot.sequence ≡ slice_index part.sequences grid = same_Some snapshot.sequence (slice_index part.sequences grid) (sym its ∙ at.at) in
      in-back part are.prefix list.seen ranks rank grid visits at snapshot same (subst (λ (i : ℕ). Opens part are.prefix list.seen ranks rank i snapshot) same opening))
    where
      by : (some : List Visit) → 0 < length some → ((one : Visit) → Contains some one → Contains visits one)
          → IsGroupOf part grid (map (snapshot_at part grid) some) (stands_at some)
      by [] none those = absurd (omega (arith, none))
      by (first ∷ some) any those = in-group part are.prefix list.seen ranks rank grid visits at first some those

  -- and that its stands are filed
  pub longer-stands : (support : ℕ) → 1 ≤ rank → rank ≤ part.bound.top → IsSupportOf part (prefixes ++ rank ∷ []) support
      → (snapshots : List Snapshot)
      × AreSnapshots part (prefixes ++ rank ∷ []) (record { seen = sees list.seen part.bound.need rank; support = support; snapshots = snapshots })
      × AreStandsOf part snapshots (stands_of ranks (aim_of part list.seen) rank sequences)
  longer-stands support least most is_support =
      let (chosen, among, chosen_rise, stands) = along-stands part are.prefix list.seen ranks rank grids sequences all rising in (
        snapshots_along part list.seen ranks rank grids sequences,
        longer-are support least most is_support,
        record { grids = chosen; rising = chosen_rise; are = stands },
      )

-- ---- from groups

-- the grid of a group is one of the part
group-at : (part : GridList) (prefix : List Item) (seen : Bool) (grid : ℕ) (group : List Stand) → IsGroupIn part prefix seen grid group
    → slice_get part.sequences grid ≡ Some (slice_index part.sequences grid)
group-at part prefix seen grid group (here, is, walk) = by here group is.marked is.are
  where
    by : (snapshots : List Snapshot) (stands : List Stand) → IsGroup stands → AllZip (IsStandOf part grid) snapshots stands
        → slice_get part.sequences grid ≡ Some (slice_index part.sequences grid)
    by snapshots [] marked zip = absurd (let some = marked.some in omega arith)
    by [] (stand ∷ stands) marked zip = absurd zip
    by (snapshot ∷ snapshots) (stand ∷ stands) marked (first, zip) =
        let same : slice_index part.sequences grid ≡ snapshot.sequence = get_or_from_slice_get part.sequences grid snapshot.sequence 0 first.sequence in
        first.sequence ∙ ap Some (sym same)

module _ (part : GridList) (is : IsPart part) (prefixes : List ℕ) (list : SnapshotList) (are : AreSnapshots part prefixes list) (ranks : Ranks) (course : Course)
    (visit-within : (grid : ℕ) (group : List Stand) → IsGroupIn part are.prefix list.seen grid group → (visits : List Visit) → AreVisits course group visits
    → (visit : Visit) → Contains visits visit → (position : ℕ) × (position < length (items_at part grid)) × (visit.place ≡ start_of part grid + (position + 1)))
    (opens-visit : (grid : ℕ) (group : List Stand) → IsGroupIn part are.prefix list.seen grid group → (visits : List Visit) → AreVisits course group visits
    → (rank position state : ℕ) → OpensNext part.problem part.bound (items_at part grid) are.prefix list.seen rank position state
    ↔ ((visit : Visit) × Contains visits visit × (visit.place ≡ start_of part grid + position) × (visit.action.state ≡ state)
    × IsTrue (opens ranks (aim_of part list.seen) rank visit))) where
  pub groups-visits : (rank : ℕ) (grids : List ℕ) (groups : List (List Stand)) (sequences : List (List Visit)) → AreGroupsIn part are.prefix list.seen grids groups
      → AllZip (AreVisits course) groups sequences → AllZip (AreVisitsIn part are.prefix list.seen ranks rank) grids sequences
  groups-visits rank [] [] [] groups_are visits_are = tt
  groups-visits rank [] [] (visits ∷ sequences) groups_are visits_are = absurd visits_are
  groups-visits rank [] (group ∷ groups) sequences groups_are visits_are = absurd groups_are
  groups-visits rank (grid ∷ grids) [] sequences groups_are visits_are = absurd groups_are
  groups-visits rank (grid ∷ grids) (group ∷ groups) [] groups_are visits_are = absurd visits_are
  groups-visits rank (grid ∷ grids) (group ∷ groups) (visits ∷ sequences) (here, others) (exact, rest) = (
    record {
      at = group-at part are.prefix list.seen grid group here;
      rising = exact.rising;
      within = visit-within grid group here visits exact;
      opening = opens-visit grid group here visits exact rank;
    },
    groups-visits rank grids groups sequences others rest,
  )

  -- the snapshots and the stands of a longer prefix, from groups and their visits
  pub groups-longer : (rank : ℕ) (grids : List ℕ) (groups : List (List Stand)) (sequences : List (List Visit)) → AllPairs (λ low high. low < high) grids
      → AreAllGrids part list.snapshots grids → AreGroupsIn part are.prefix list.seen grids groups → AllZip (AreVisits course) groups sequences → (support : ℕ)
      → 1 ≤ rank → rank ≤ part.bound.top → IsSupportOf part (prefixes ++ rank ∷ []) support
      → (snapshots : List Snapshot)
      × AreSnapshots part (prefixes ++ rank ∷ []) (record { seen = sees list.seen part.bound.need rank; support = support; snapshots = snapshots })
      × AreStandsOf part snapshots (stands_of ranks (aim_of part list.seen) rank sequences)
  groups-longer rank grids groups sequences rising all_grids groups_are visits_are support least most is_support =
      longer-stands part is prefixes list are ranks rank grids rising all_grids sequences (groups-visits rank grids groups sequences groups_are visits_are)
      support least most is_support
