-- Stands of a prefix, cut into those of each sequence.
use Rattle.std.proofs.Common.{◌≡◌, ℕ, ◌≤◌, ◌<◌, inl, inr, Some, List, [], ◌∷◌, ◌++◌, length, get_or, refl, sym, subst, arith}
use Rattle.std.specs.List.{AllPairs, AllZip, Contains, slice_get, slice_index}
use Rattle.std.proofs.lemmas.List.Elements.{Contains-append_left, Contains-append_right, Contains-append_cases}
use Rattle.std.proofs.lemmas.Option.{slice_get-get_or}
use Rattle.std.proofs.lemmas.Slice.Zip.{AllZip-long}
use Rattle.mine_model.proofs.ElementLemmas.{get-some, get-held}
use Rattle.mine_model.proofs.ListLemmas.{Contains-cases, Contains-first, Contains-other, Contains-none, AllPairs-head, AllPairs-tail, pairs-front, pairs-back}
use Rattle.mining_job.specs.Problems.{items_of}
use Rattle.sequence_grids.specs.Grids.{GridList}
use Rattle.place_walk.specs.declared.stand.Stand.{Stand}
use Rattle.place_walk.specs.Groups.{AreGroups}
use Rattle.snapshot_project.specs.declared.snapshot.Snapshot.{Snapshot}
use Rattle.snapshot_project.specs.Snapshots.{HasSnapshot, ComesBefore, SnapshotList, AreSnapshots, IsPart}
use Rattle.snapshot_project.specs.Stands.{IsStandOf, IsGroupOf, AreStandsIn}
use Rattle.snapshot_project.specs.Grouped.{IsGroupIn, AreGroupsIn, AreAllGrids}
use Rattle.snapshot_project.proofs.StartLemmas.{sequence-at, sequence-once}

-- ---- parts of lists

-- what is in one of two lists has its like in the other
pub zip-known : {A B : Type 0} (R : A → B → Type 0) (xs : List A) (ys : List B) → AllZip R xs ys → (x : A) → Contains xs x
    → (y : B) × Contains ys y × R x y
zip-known R [] ys zip x held = absurd (Contains-none x held)
zip-known R (first ∷ xs) [] zip x held = absurd zip
zip-known {A} R (first ∷ xs) (other ∷ ys) zip x held = elim (Contains-cases first xs x held) [
  | inl same ↦ (other, Contains-first other ys, subst (λ (z : A). R z other) (sym same) zip.0)
  | inr there ↦ let (y, inside, is) = zip-known R xs ys zip.1 x there in (y, Contains-other other ys y inside, is)
]

-- lists that go together, one behind another
pub zip-both : {A B : Type 0} (R : A → B → Type 0) (xs : List A) (ys : List B) (more : List A) (others : List B) → AllZip R xs ys → AllZip R more others
    → AllZip R (xs ++ more) (ys ++ others)
zip-both R [] [] more others one other = other
zip-both R [] (y ∷ ys) more others one other = absurd one
zip-both R (x ∷ xs) [] more others one other = absurd one
zip-both R (x ∷ xs) (y ∷ ys) more others (here, one) other = (here, zip-both R xs ys more others one other)

module _ (part : GridList) where
  -- ---- of which grids

  -- the snapshots of a group are in its sequence
  pub group-sequence : (grid : ℕ) (here : List Snapshot) (group : List Stand) → IsGroupOf part grid here group → (snapshot : Snapshot) → Contains here snapshot
      → slice_get part.sequences grid ≡ Some snapshot.sequence
  group-sequence grid here group is snapshot held =
      let (stand, inside, same) = zip-known (IsStandOf part grid) here group is.are snapshot held in same.sequence

  -- which is there
  pub group-inside : (grid : ℕ) (here : List Snapshot) (group : List Stand) → IsGroupOf part grid here group → grid < length part.sequences
  group-inside grid here group is =
      let long : length group ≡ length here = AllZip-long (IsStandOf part grid) here group is.are in
      let some = is.marked.some in
      let (snapshot, at) = get-some here 0 (omega arith) in
      let (inside, index) = sequence-at part grid snapshot.sequence (group-sequence grid here group is snapshot (get-held here 0 snapshot at)) in
      inside

  -- each snapshot is in the sequence of one of the grids
  pub stands-known : (grids : List ℕ) (snapshots : List Snapshot) (stands : List Stand) → AreStandsIn part grids snapshots stands
      → (snapshot : Snapshot) → Contains snapshots snapshot
      → (grid : ℕ) × Contains grids grid × (slice_get part.sequences grid ≡ Some snapshot.sequence)
  stands-known [] snapshots stands (none, empty) snapshot held =
      absurd (Contains-none snapshot (subst (λ (l : List Snapshot). Contains l snapshot) none held))
  stands-known (grid ∷ grids) snapshots stands (here, others, cut, group, behind, split, is, rest) snapshot held =
      elim (Contains-append_cases here others snapshot (subst (λ (l : List Snapshot). Contains l snapshot) cut held)) [
        | inl inside ↦ (grid, Contains-first grid grids, group-sequence grid here group is snapshot inside)
        | inr there ↦
            let (other, known, at) = stands-known grids others behind rest snapshot there in
            (other, Contains-other grid grids other known, at)
      ]

  module _ (is : IsPart part) where
    -- and no other sequence of the part has one
    pub stands-all : (grids : List ℕ) (snapshots : List Snapshot) (stands : List Stand) → AreStandsIn part grids snapshots stands
        → AreAllGrids part snapshots grids
    stands-all grids snapshots stands are grid snapshot held at =
        let (other, known, also) = stands-known grids snapshots stands are snapshot held in
        let same : other ≡ grid = sequence-once part is.rising other grid snapshot.sequence also at in
        subst (Contains grids) same known

    module _ (prefixes : List ℕ) (list : SnapshotList) (are : AreSnapshots part prefixes list) where
      -- ---- the snapshots of one sequence

      group-rising : (grid : ℕ) (here : List Snapshot) (group : List Stand) → IsGroupOf part grid here group → AllPairs ComesBefore here
          → AllPairs (λ (first second : Snapshot). first.position ≤ second.position) here
      group-rising grid here group is_group before i j d less within =
          let first = get_or here i d in
          let second = get_or here j d in
          let (inside, is_first) = sequence-at part grid first.sequence
          (group-sequence grid here group is_group first (get-held here i first (slice_get-get_or here i d (omega arith)))) in
          let (inside, is_second) = sequence-at part grid second.sequence
          (group-sequence grid here group is_group second (get-held here j second (slice_get-get_or here j d within))) in
          elim (before i j d less within) [
            | inl early ↦ absurd (omega arith)
            | inr (same, inl earlier) ↦ omega arith
            | inr (same, inr (place, lower)) ↦ omega arith
          ]

      -- all snapshots of the sequence of a grid are its group
      pub group-in : (grid : ℕ) (here : List Snapshot) (group : List Stand) → IsGroupOf part grid here group → AllPairs ComesBefore here
          → ((snapshot : Snapshot) → Contains here snapshot → Contains list.snapshots snapshot)
          → ((snapshot : Snapshot) → Contains list.snapshots snapshot → slice_get part.sequences grid ≡ Some snapshot.sequence → Contains here snapshot)
          → IsGroupIn part are.prefix list.seen grid group
      group-in grid here group is_group before known all =
          let inside : grid < length part.sequences = group-inside grid here group is_group in
          let i = slice_index part.sequences grid in
          let at : slice_get part.sequences grid ≡ Some i = slice_get-get_or part.sequences grid 0 inside in (
            here,
            is_group,
            record {
              seen_is = are.seen;
              rising = group-rising grid here group is_group before;
              right = λ position state (snapshot, held, place, same).
                  let (sequence, has) = are.right snapshot (known snapshot held) in
                  let (within, index) = sequence-at part grid snapshot.sequence (group-sequence grid here group is_group snapshot held) in
                  subst (λ (k : ℕ). HasSnapshot part.problem part.bound (items_of part.problem k) are.prefix position state) (sym index)
                  (subst (λ (k : ℕ). HasSnapshot part.problem part.bound (items_of part.problem snapshot.sequence) are.prefix k state) place
                  (subst (λ (k : ℕ). HasSnapshot part.problem part.bound (items_of part.problem snapshot.sequence) are.prefix snapshot.position k) same has));
              all = λ position state has on.
                  let snapshot : Snapshot = record { sequence = i; position = position; state = state } in
                  let held : Contains list.snapshots snapshot = are.all snapshot (get-held part.sequences grid i at, has) on in
                  (snapshot, all snapshot held at, refl, refl);
            },
          )

      -- ---- sequence by sequence

      cut-from : (grids : List ℕ) (snapshots : List Snapshot) (stands : List Stand) → AreStandsIn part grids snapshots stands
          → AllPairs (λ low high. low < high) grids → AllPairs ComesBefore snapshots
          → ((snapshot : Snapshot) → Contains snapshots snapshot → Contains list.snapshots snapshot)
          → ((grid : ℕ) (snapshot : Snapshot) → Contains grids grid → Contains list.snapshots snapshot
          → slice_get part.sequences grid ≡ Some snapshot.sequence → Contains snapshots snapshot)
          → (groups : List (List Stand)) × AreGroups stands groups × AreGroupsIn part are.prefix list.seen grids groups
      cut-from [] snapshots stands (none, empty) rising before known all = ([], empty, tt)
      cut-from (grid ∷ grids) snapshots stands (here, others, cut, group, behind, split, is_group, rest) rising before known all =
          let less : (other : ℕ) → Contains grids other → grid < other = AllPairs-head (λ (low high : ℕ). low < high) grid grids rising in
          let both : AllPairs ComesBefore (here ++ others) = subst (AllPairs ComesBefore) cut before in
          let apart : (other : ℕ) (snapshot : Snapshot) → Contains grids other → slice_get part.sequences grid ≡ Some snapshot.sequence
          → slice_get part.sequences other ≡ Some snapshot.sequence → ⊥ = λ other snapshot later at also.
          let same : grid ≡ other = sequence-once part is.rising grid other snapshot.sequence at also in
          let early : grid < other = less other later in omega arith in
          let either : (k : ℕ) (snapshot : Snapshot) → Contains (grid ∷ grids) k → Contains list.snapshots snapshot
          → slice_get part.sequences k ≡ Some snapshot.sequence → Contains (here ++ others) snapshot = λ k snapshot one held at.
          subst (λ (l : List Snapshot). Contains l snapshot) cut (all k snapshot one held at) in
          let one : IsGroupIn part are.prefix list.seen grid group = group-in grid here group is_group (pairs-front ComesBefore here others both)
          (λ snapshot held. known snapshot (subst (λ (l : List Snapshot). Contains l snapshot) (sym cut) (Contains-append_left here others snapshot held)))
          (λ snapshot held at. elim (Contains-append_cases here others snapshot (either grid snapshot (Contains-first grid grids) held at)) [
            | inl inside ↦ inside
            | inr there ↦
                let (other, later, also) = stands-known grids others behind rest snapshot there in
                absurd (apart other snapshot later at also)
          ]) in
          let (groups, are_groups, in_groups) = cut-from grids others behind rest (AllPairs-tail (λ (low high : ℕ). low < high) grid grids rising)
          (pairs-back ComesBefore here others both)
          (λ snapshot held. known snapshot (subst (λ (l : List Snapshot). Contains l snapshot) (sym cut) (Contains-append_right here others snapshot held)))
          (λ other snapshot later held at.
          elim (Contains-append_cases here others snapshot (either other snapshot (Contains-other grid grids other later) held at)) [
            | inl inside ↦ absurd (apart other snapshot later (group-sequence grid here group is_group snapshot inside) at)
            | inr there ↦ there
          ]) in
          (group ∷ groups, (behind, split, is_group.marked, are_groups), (one, in_groups))

      -- THE CUT: the stands of a list of snapshots are groups, one of each sequence that has some
      pub stands-cut : (grids : List ℕ) (stands : List Stand) → AllPairs (λ low high. low < high) grids → AreStandsIn part grids list.snapshots stands
          → (groups : List (List Stand)) × AreGroups stands groups × AreGroupsIn part are.prefix list.seen grids groups
          × AreAllGrids part list.snapshots grids
      stands-cut grids stands rising are_stands =
          let (groups, are_groups, in_groups) = cut-from grids list.snapshots stands are_stands rising are.rising
          (λ snapshot held. held) (λ grid snapshot inside held at. held) in
          (groups, are_groups, in_groups, stands-all grids list.snapshots stands are_stands)
