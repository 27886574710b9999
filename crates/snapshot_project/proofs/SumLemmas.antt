-- What the visits of all sequences weigh, by rank: what may follow a prefix.
use Rattle.std.proofs.Common.{◌≡◌, ◌↔◌, ℕ, ◌+◌, ◌≤◌, ◌<◌, Bool, IsTrue, Some, List, [], ◌∷◌, ◌++◌, length, map, refl, sym, ap, ◌∙◌, subst, arith}
use Rattle.std.specs.List.{AllPairs, AllZip, Contains, slice_get, slice_index}
use Rattle.std.proofs.lemmas.List.{length-map}
use Rattle.std.proofs.lemmas.Option.{slice_get-get_or, slice_get_within, same_Some}
use Rattle.mine_model.specs.declared.item.Item.{Item}
use Rattle.mine_model.specs.Database.{sequence_at}
use Rattle.mine_model.specs.Support.{Sequence, Counts}
use Rattle.mine_model.specs.Growth.{WeighAtLeast}
use Rattle.mine_model.proofs.AliveLemmas.{WeighAtLeast-counted, WeighAtLeast-weaker}
use Rattle.mine_model.proofs.ElementLemmas.{get-held, slice_get-mapped_by}
use Rattle.mine_model.proofs.ListLemmas.{Contains-first, Contains-none}
use Rattle.mining_job.specs.Problems.{items_of}
use Rattle.sequence_grids.specs.Grids.{GridList, items_at}
use Rattle.place_walk.specs.declared.stand.Stand.{Stand}
use Rattle.place_walk.specs.declared.visit.Visit.{Visit}
use Rattle.place_walk.specs.Courses.{Course}
use Rattle.place_walk.specs.Visits.{AreVisits}
use Rattle.stand_sums.specs.declared.aim.Aim.{Aim}
use Rattle.stand_sums.specs.Writings.{Ranks, opens, ends, follows}
use Rattle.stand_sums.specs.Sequences.{HasOne, weight_at, weight_of, all_weighed}
use Rattle.place_records.specs.Records.{start_of}
use Rattle.snapshot_project.specs.declared.snapshot.Snapshot.{Snapshot}
use Rattle.snapshot_project.specs.Snapshots.{IsPart, SnapshotList, AreSnapshots}
use Rattle.snapshot_project.specs.Extensions.{sequences_of, GrowsBehind, GeneratesWithin, CanFollow, IsSupportOf}
use Rattle.snapshot_project.specs.Live.{OpensNext}
use Rattle.snapshot_project.specs.Stands.{IsLight}
use Rattle.snapshot_project.specs.Grouped.{IsGroupIn, AreGroupsIn, AreAllGrids, AreWeights}
use Rattle.snapshot_project.proofs.ExtensionLemmas.{grows-next, generates-next}
use Rattle.snapshot_project.proofs.ListedLemmas.{writes-listed, follows-opens}
use Rattle.snapshot_project.proofs.GroupLemmas.{group-inside}
use Rattle.snapshot_project.proofs.CountLemmas.{IsChosen, counts-chosen}

-- each visit is in the sequence of the grid
pub record AreInside (part : GridList) (grid : ℕ) (visits : List Visit) : Type 0 where
  pub inside : grid < length part.sequences
  pub within : (visit : Visit) → Contains visits visit
      → (position : ℕ) × (position < length (items_at part grid)) × (visit.place ≡ start_of part grid + (position + 1))

-- and they tell whether the sequence has the property
pub record AreToldBy (part : GridList) (Has : List Item → Type 0) (Told : List Visit → Type 0) (grid : ℕ) (visits : List Visit) : Type 0 where
  pub are_inside : AreInside part grid visits
  pub same : Has (items_at part grid) ↔ Told visits

-- what some visit tells
abbrev pub IsOfSome : (List Visit → Type 0) → Type 0
IsOfSome Told = (visits : List Visit) → Told visits → (visit : Visit) × Contains visits visit

module _ (part : GridList) (weights : List ℕ) (weigh : AreWeights part weights) where
  -- visits weigh what their sequence does
  pub visits-weigh : (grid : ℕ) (visits : List Visit) → AreInside part grid visits → (visit : Visit) → Contains visits visit
      → (sequence_at part.problem.sequences (slice_index part.sequences grid)).weight ≡ weight_of weights visits
  visits-weigh grid [] are visit held = absurd (Contains-none visit held)
  visits-weigh grid (first ∷ rest) are visit held =
      let (position, below, place) = are.within first (Contains-first first rest) in
      sym (ap (weight_at weights) place ∙ weigh grid (position + 1) are.inside (omega arith))

  module _ (Has : List Item → Type 0) (Told : List Visit → Type 0) (of_some : IsOfSome Told) where
    visits-chosen : (grids : List ℕ) (sequences : List (List Visit)) → AllZip (AreToldBy part Has Told) grids sequences
        → AllZip (IsChosen Has Told (sequences_of part) 0) grids (all_weighed weights sequences)
    visits-chosen [] [] zip = tt
    visits-chosen [] (visits ∷ sequences) zip = absurd zip
    visits-chosen (grid ∷ grids) [] zip = absurd zip
    visits-chosen (grid ∷ grids) (visits ∷ sequences) (told, zip) =
        let inside : grid < length part.sequences = told.are_inside.inside in
        let i = slice_index part.sequences grid in
        let at : slice_get part.sequences grid ≡ Some i = slice_get-get_or part.sequences grid 0 inside in (
          (
            grid,
            sequence_at part.problem.sequences i,
            omega arith,
            slice_get-mapped_by (λ (k : ℕ). sequence_at part.problem.sequences k) part.sequences grid i at,
            record {
              same = told.same;
              weight = λ tells. (let (visit, held) = of_some visits tells in visits-weigh grid visits told.are_inside visit held);
            },
          ),
          visits-chosen grids sequences zip,
        )

    -- Where visits tell of the sequences of some grids whether they have a property, and no other sequence of the
    -- part has it, the visits weigh what all sequences do that have it.
    pub visits-counted : (grids : List ℕ) (sequences : List (List Visit)) → AllPairs (λ low high. low < high) grids
        → AllZip (AreToldBy part Has Told) grids sequences
        → ((grid i : ℕ) → slice_get part.sequences grid ≡ Some i → Has (items_of part.problem i) → Contains grids grid)
        → (n : ℕ) → Counts Told (all_weighed weights sequences) n → Counts Has (sequences_of part) n
    visits-counted grids sequences rising told all =
        let number : ℕ → Sequence Item = λ k. sequence_at part.problem.sequences k in
        counts-chosen Has Told (sequences_of part) grids (all_weighed weights sequences) rising (visits-chosen grids sequences told)
        (λ grid s at has.
        let long : length (map number part.sequences) ≡ length part.sequences = length-map part.sequences number in
        let within : grid < length (map number part.sequences) = slice_get_within (map number part.sequences) grid s at in
        let i = slice_index part.sequences grid in
        let here : slice_get part.sequences grid ≡ Some i = slice_get-get_or part.sequences grid 0 (omega arith) in
        let same : s ≡ number i = same_Some s (number i) (sym at ∙ slice_get-mapped_by number part.sequences grid i here) in
        all grid i here (subst (λ (t : Sequence Item). Has t.items) same has))

-- the visits of each group are in its sequence
abbrev pub AllWithin : GridList → List Item → Bool → Course → Type 0
AllWithin part prefix seen course =
    (grid : ℕ) (group : List Stand) → IsGroupIn part prefix seen grid group → (visits : List Visit) → AreVisits course group visits
    → (visit : Visit) → Contains visits visit
    → (position : ℕ) × (position < length (items_at part grid)) × (visit.place ≡ start_of part grid + (position + 1))

-- they tell whether that has the property
abbrev pub AllTell : GridList → List Item → Bool → Course → (List Item → Type 0) → (List Visit → Type 0) → Type 0
AllTell part prefix seen course Has Told =
    (grid : ℕ) (group : List Stand) → IsGroupIn part prefix seen grid group → (visits : List Visit) → AreVisits course group visits
    → Has (items_at part grid) ↔ Told visits

-- one visit that passes is some
pub one-some : (test : Visit → Bool) → IsOfSome (HasOne test)
one-some test visits (visit, held, passes) = (visit, held)

-- they open at the places and in the states at which the prefix with the rank goes on
abbrev pub AllOpen : GridList → List Item → Bool → Course → Ranks → Aim → ℕ → Type 0
AllOpen part prefix seen course ranks aim rank =
    (grid : ℕ) (group : List Stand) → IsGroupIn part prefix seen grid group → (visits : List Visit) → AreVisits course group visits
    → (position state : ℕ) → OpensNext part.problem part.bound (items_at part grid) prefix seen rank position state
    ↔ ((visit : Visit) × Contains visits visit × (visit.place ≡ start_of part grid + position) × (visit.action.state ≡ state)
    × IsTrue (opens ranks aim rank visit))

module _ (part : GridList) (is : IsPart part) (ranks : Ranks) (aim : Aim) (prefixes : List ℕ) (list : SnapshotList) (are : AreSnapshots part prefixes list)
    (course : Course) (visit-within : AllWithin part are.prefix list.seen course) where
  pub groups-told : (Has : List Item → Type 0) (Told : List Visit → Type 0) → AllTell part are.prefix list.seen course Has Told
      → (grids : List ℕ) (groups : List (List Stand)) (sequences : List (List Visit)) → AreGroupsIn part are.prefix list.seen grids groups
      → AllZip (AreVisits course) groups sequences → AllZip (AreToldBy part Has Told) grids sequences
  groups-told Has Told same [] [] [] in' zip = tt
  groups-told Has Told same [] [] (visits ∷ sequences) in' zip = absurd zip
  groups-told Has Told same [] (group ∷ groups) sequences in' zip = absurd in'
  groups-told Has Told same (grid ∷ grids) [] sequences in' zip = absurd in'
  groups-told Has Told same (grid ∷ grids) (group ∷ groups) [] in' zip = absurd zip
  groups-told Has Told same (grid ∷ grids) (group ∷ groups) (visits ∷ sequences) (here, others) (exact, zip) = (
    record {
      are_inside = record {
        inside = (let (snapshots, is_group, are_group) = here in group-inside part grid snapshots group is_group);
        within = visit-within grid group here visits exact;
      };
      same = same grid group here visits exact;
    },
    groups-told Has Told same grids groups sequences others zip,
  )

  module _ (grids : List ℕ) (rising : AllPairs (λ low high. low < high) grids) (all : AreAllGrids part list.snapshots grids)
      (groups : List (List Stand)) (in' : AreGroupsIn part are.prefix list.seen grids groups)
      (sequences : List (List Visit)) (visited : AllZip (AreVisits course) groups sequences)
      (weights : List ℕ) (weigh : AreWeights part weights) where
    -- what is written only behind snapshots of the list is written in the sequences of the grids
    pub groups-counted : (Has : List Item → Type 0) (Told : List Visit → Type 0) → IsOfSome Told → AllTell part are.prefix list.seen course Has Told
        → ((i : ℕ) → Contains part.sequences i → Has (items_of part.problem i)
        → (snapshot : Snapshot) × Contains list.snapshots snapshot × (snapshot.sequence ≡ i))
        → (n : ℕ) → Counts Told (all_weighed weights sequences) n → Counts Has (sequences_of part) n
    groups-counted Has Told of_some same listed =
        visits-counted part weights weigh Has Told of_some grids sequences rising (groups-told Has Told same grids groups sequences in' visited)
        (λ grid i at has.
        let (snapshot, held, number) = listed i (get-held part.sequences grid i at) has in
        all grid snapshot held (at ∙ ap Some (sym number)))

    -- the visits that follow have the weight with which the rank can follow
    pub follows-counted : (rank : ℕ)
        → AllTell part are.prefix list.seen course (GrowsBehind part (prefixes ++ rank ∷ [])) (HasOne (follows ranks aim rank))
        → (n : ℕ) → Counts (HasOne (follows ranks aim rank)) (all_weighed weights sequences) n → CanFollow part prefixes rank n
    follows-counted rank grows-visit =
        groups-counted (GrowsBehind part (prefixes ++ rank ∷ [])) (HasOne (follows ranks aim rank)) (one-some (follows ranks aim rank)) grows-visit
        (λ i known grows.
        let (position, state, writes) = (grows-next part is.whole are.prefix prefixes are.ranked are.top (items_of part.problem i) rank).0 grows in
        writes-listed part is.whole prefixes list are i known rank position state writes)

    -- those that end have the support of the prefix with the rank
    pub ends-counted : (rank : ℕ)
        → AllTell part are.prefix list.seen course (GeneratesWithin part (prefixes ++ rank ∷ [])) (HasOne (ends ranks aim rank))
        → (n : ℕ) → Counts (HasOne (ends ranks aim rank)) (all_weighed weights sequences) n → IsSupportOf part (prefixes ++ rank ∷ []) n
    ends-counted rank generates-visit =
        groups-counted (GeneratesWithin part (prefixes ++ rank ∷ [])) (HasOne (ends ranks aim rank)) (one-some (ends ranks aim rank)) generates-visit
        (λ i known generates.
        let (position, state, (writes, holds, at_end)) = (generates-next part is.whole are.prefix prefixes are.ranked are.top (items_of part.problem i) rank).0 generates in
        writes-listed part is.whole prefixes list are i known rank position state writes)

    -- where those that go on weigh less, no longer prefix weighs so much
    pub opens-counted : (rank : ℕ) → AllOpen part are.prefix list.seen course ranks aim rank → (n least : ℕ) → Counts (HasOne (opens ranks aim rank)) (all_weighed weights sequences) n → n < least
        → IsLight part (prefixes ++ rank ∷ []) least
    opens-counted rank opens-visit n least counts few other weighs =
        let Opens : List Item → Type 0 =
        λ items. (position : ℕ) × (state : ℕ) × OpensNext part.problem part.bound items are.prefix list.seen rank position state in
        let all_counted : Counts Opens (sequences_of part) n = groups-counted Opens (HasOne (opens ranks aim rank)) (one-some (opens ranks aim rank))
        (λ grid group here visits exact. (
          (λ (position, state, next).
              let (visit, held, place, same, passes) = (opens-visit grid group here visits exact position state).0 next in (visit, held, passes)),
          (λ (visit, held, passes).
              let (position, below, place) = visit-within grid group here visits exact visit held in (
                position + 1,
                visit.action.state,
                (opens-visit grid group here visits exact (position + 1) visit.action.state).1 (visit, held, place, refl, passes),
              )),
        ))
        (λ i known (position, state, (before, next, writes, completes)).
        writes-listed part is.whole prefixes list are i known rank before state writes) n counts in
        let opening : WeighAtLeast Opens (sequences_of part) least =
        WeighAtLeast-weaker (GrowsBehind part ((prefixes ++ rank ∷ []) ++ other ∷ [])) Opens
        (λ items grows. follows-opens part is.whole prefixes list are items rank other grows) (sequences_of part) least weighs in
        let most : least ≤ n = (WeighAtLeast-counted Opens (sequences_of part) n least all_counted).0 opening in
        omega arith
