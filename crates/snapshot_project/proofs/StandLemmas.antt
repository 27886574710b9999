-- The stands of the snapshots of a prefix, among the places of a part.
use Rattle.std.proofs.Common.{◌≡◌, ℕ, ◌+◌, ◌≤◌, ◌<◌, inl, inr, List, [], ◌∷◌, ◌++◌, length, get_or, sym, ◌∙◌, subst, arith}
use Rattle.std.specs.List.{All, AllPairs, AllZip, Contains, slice_index}
use Rattle.std.proofs.lemmas.List.Elements.{Contains-get_or, Contains-append_left, Contains-append_right, Contains-append_cases}
use Rattle.std.proofs.lemmas.List.Kept.{AllPairs-cons}
use Rattle.std.proofs.lemmas.Option.{get_or_from_slice_get, slice_get_within, same_Some}
use Rattle.mine_model.specs.declared.item.Item.{Item}
use Rattle.mine_model.proofs.ListLemmas.{Contains-cases, Contains-first, Contains-other, Contains-none, AllPairs-tail, AllPairs-head, AllPairs-append, pairs-front, pairs-back}
use Rattle.mining_job.specs.Problems.{items_of}
use Rattle.sequence_grids.specs.Grids.{GridList, items_at}
use Rattle.sequence_grids.specs.Successors.{AreSuccessors}
use Rattle.walk_memo.specs.Moves.{MoveSets}
use Rattle.walk_places.specs.declared.places.Record.{Record}
use Rattle.place_walk.specs.declared.stand.Stand.{Stand}
use Rattle.place_records.specs.Records.{start_of, AreRecords}
use Rattle.snapshot_project.specs.declared.snapshot.Snapshot.{Snapshot}
use Rattle.snapshot_project.specs.Snapshots.{IsSnapshotOf, ComesBefore, SnapshotList, AreSnapshots, IsPart}
use Rattle.snapshot_project.specs.Stands.{IsStandOf, AreStandsIn, AreStandsOf}
use Rattle.snapshot_project.proofs.SnapshotLemmas.{snapshot-state}
use Rattle.snapshot_project.proofs.StartLemmas.{start-rises, start-whole}

-- what is in the second of two lists has its like in the first
pub zip-back : {A B : Type 0} (R : A → B → Type 0) (xs : List A) (ys : List B) → AllZip R xs ys → (y : B) → Contains ys y → (x : A) × Contains xs x × R x y
zip-back R xs [] zip y held = absurd (Contains-none y held)
zip-back R [] (y ∷ ys) zip one held = absurd zip
zip-back R (x ∷ xs) (y ∷ ys) zip one held = elim (Contains-cases y ys one held) [
  | inl same ↦ (x, Contains-first x xs, subst (R x) (sym same) zip.0)
  | inr there ↦ let (other, inside, is) = zip-back R xs ys zip.1 one there in (other, Contains-other x xs other inside, is)
]

abbrev NotBehind : Stand → Stand → Type 0
NotBehind one other = one.place ≤ other.place

module _ (part : GridList) where
  -- a stand in one of these grids is that of a snapshot
  pub stand-snapshot : (grids : List ℕ) (snapshots : List Snapshot) (stands : List Stand) → AreStandsIn part grids snapshots stands
      → (stand : Stand) → Contains stands stand
      → (grid : ℕ) × Contains grids grid × ((snapshot : Snapshot) × Contains snapshots snapshot × IsStandOf part grid snapshot stand)
  stand-snapshot [] snapshots stands (none, empty) stand held = absurd (Contains-none stand (subst (λ (l : List Stand). Contains l stand) empty held))
  stand-snapshot (grid ∷ grids) snapshots stands (here, others, cut, group, behind, split, of, rest) stand held =
      elim (Contains-append_cases group behind stand (subst (λ (l : List Stand). Contains l stand) split held)) [
        | inl inside ↦
            let (snapshot, among, is) = zip-back (IsStandOf part grid) here group of.are stand inside in
            (grid, Contains-first grid grids, (snapshot, subst (λ (l : List Snapshot). Contains l snapshot) (sym cut) (Contains-append_left here others snapshot among), is))
        | inr there ↦
            let (other, known, (snapshot, among, is)) = stand-snapshot grids others behind rest stand there in
            (other, Contains-other grid grids other known, (snapshot, subst (λ (l : List Snapshot). Contains l snapshot) (sym cut) (Contains-append_right here others snapshot among), is))
      ]

  module _ (prefix : List Item) where
    -- it is before one of the places of its sequence
    pub stand-inside : (grid : ℕ) (snapshot : Snapshot) (stand : Stand) → IsStandOf part grid snapshot stand → IsSnapshotOf part prefix snapshot
        → (grid < length part.sequences) × (stand.place ≤ start_of part grid + length (items_at part grid))
    stand-inside grid snapshot stand is known =
        let sequence_is : slice_index part.sequences grid ≡ snapshot.sequence = get_or_from_slice_get part.sequences grid snapshot.sequence 0 is.sequence in
        let most : snapshot.position ≤ length (items_of part.problem snapshot.sequence) = known.1.0 in
        let within : snapshot.position ≤ length (items_at part grid) = subst (λ (i : ℕ). snapshot.position ≤ length (items_of part.problem i)) (sym sequence_is) most in
        let place : stand.place ≡ start_of part grid + snapshot.position = is.place in
        (slice_get_within part.sequences grid snapshot.sequence is.sequence, omega arith)

    -- ---- in order

    group-rises : (grid : ℕ) (snapshots : List Snapshot) (group : List Stand) → AllZip (IsStandOf part grid) snapshots group → AllPairs ComesBefore snapshots → AllPairs NotBehind group
    group-rises grid snapshots [] zip rising = λ i j d less within. absurd (omega arith)
    group-rises grid [] (stand ∷ group) zip rising = absurd zip
    group-rises grid (snapshot ∷ snapshots) (stand ∷ group) zip rising =
        AllPairs-cons NotBehind stand group
        (λ k d below.
        let other : Stand = get_or group k d in
        let (later, held, is) = zip-back (IsStandOf part grid) snapshots group zip.1 other (Contains-get_or group k d below) in
        let place : stand.place ≡ start_of part grid + snapshot.position = zip.0.place in
        let place_later : other.place ≡ start_of part grid + later.position = is.place in
        let same : snapshot.sequence ≡ later.sequence = same_Some snapshot.sequence later.sequence (sym zip.0.sequence ∙ is.sequence) in
        elim (AllPairs-head ComesBefore snapshot snapshots rising later held) [
          | inl less ↦ absurd (omega arith)
          | inr (still, either) ↦ elim either [ inl less ↦ omega arith | inr (also, less) ↦ omega arith ]
        ])
        (group-rises grid snapshots group zip.1 (AllPairs-tail ComesBefore snapshot snapshots rising))

    stands-rise : (grids : List ℕ) → AllPairs (λ low high. low < high) grids → (snapshots : List Snapshot) (stands : List Stand) → AreStandsIn part grids snapshots stands
        → AllPairs ComesBefore snapshots → ((snapshot : Snapshot) → Contains snapshots snapshot → IsSnapshotOf part prefix snapshot) → AllPairs NotBehind stands
    stands-rise [] ordered snapshots stands (none, empty) rising right = subst (AllPairs NotBehind) (sym empty) (λ i j d less within. absurd (omega arith))
    stands-rise (grid ∷ grids) ordered snapshots stands (here, others, cut, group, behind, split, of, rest) rising right =
        let all : AllPairs ComesBefore (here ++ others) = subst (AllPairs ComesBefore) cut rising in
        let right_here : (snapshot : Snapshot) → Contains here snapshot → IsSnapshotOf part prefix snapshot =
        λ snapshot held. right snapshot (subst (λ (l : List Snapshot). Contains l snapshot) (sym cut) (Contains-append_left here others snapshot held)) in
        let right_others : (snapshot : Snapshot) → Contains others snapshot → IsSnapshotOf part prefix snapshot =
        λ snapshot held. right snapshot (subst (λ (l : List Snapshot). Contains l snapshot) (sym cut) (Contains-append_right here others snapshot held)) in
        subst (AllPairs NotBehind) (sym split) (AllPairs-append NotBehind group behind
        (group-rises grid here group of.are (pairs-front ComesBefore here others all))
        (stands-rise grids (AllPairs-tail (λ low high. low < high) grid grids ordered) others behind rest (pairs-back ComesBefore here others all) right_others)
        (λ one other in_group in_behind.
        let (snapshot, among, is) = zip-back (IsStandOf part grid) here group of.are one in_group in
        let (later, known, (last, held, is_last)) = stand-snapshot grids others behind rest other in_behind in
        let (inside, most) = stand-inside grid snapshot one is (right_here snapshot among) in
        let (inside_later, most_later) = stand-inside later last other is_last (right_others last held) in
        let less : grid < later = AllPairs-head (λ (low high : ℕ). low < high) grid grids ordered later known in
        let rises : start_of part grid + length (items_at part grid) < start_of part later = start-rises part grid later less (omega arith) in
        let place : other.place ≡ start_of part later + last.position = is_last.place in
        omega arith))

module _ (part : GridList) (is : IsPart part) (prefixes : List ℕ) (list : SnapshotList) (are : AreSnapshots part prefixes list) (stands : List Stand)
    (stands_are : AreStandsOf part list.snapshots stands) where
  -- the stands of a prefix are before places of the part
  pub stands-placed : (places : List Record) (early late : List MoveSets) (ranks : ℕ → ℕ → List ℕ) (CanAsk : ℕ → ℕ → Type 0)
      → AreRecords part places early late ranks CanAsk → All (λ stand. stand.place < length places) stands
  stands-placed places early late ranks CanAsk records k d within =
      let stand : Stand = get_or stands k d in
      let (grid, known, (snapshot, held, is_of)) = stand-snapshot part stands_are.grids list.snapshots stands stands_are.are stand (Contains-get_or stands k d within) in
      let (inside, most) = stand-inside part are.prefix grid snapshot stand is_of (are.right snapshot held) in
      let last : start_of part grid + length (items_at part grid) < start_of part (length part.sequences) = start-whole part grid inside in
      let long : length places ≡ start_of part (length part.sequences) = records.long in
      omega arith

  -- in states of the transducer
  pub stands-in-states : (width : ℕ) (rows : List ℕ) → AreSuccessors width part.problem.transducer rows → All (λ stand. stand.state < length rows) stands
  stands-in-states width rows rows_are k d within =
      let stand : Stand = get_or stands k d in
      let (grid, known, (snapshot, held, is_of)) = stand-snapshot part stands_are.grids list.snapshots stands stands_are.are stand (Contains-get_or stands k d within) in
      let right = are.right snapshot held in
      let state_is : stand.state ≡ snapshot.state = is_of.state in
      let few : snapshot.state ≤ length part.problem.transducer.labels =
      snapshot-state part.problem part.bound is.whole (items_of part.problem snapshot.sequence) are.prefix snapshot.position snapshot.state right.1 in
      let all : length rows ≡ length part.problem.transducer.labels + 1 = rows_are.all in
      omega arith

  -- one behind another
  pub stands-ordered : AllPairs (λ one other. one.place ≤ other.place) stands
  stands-ordered = stands-rise part are.prefix stands_are.grids stands_are.rising list.snapshots stands stands_are.are are.rising are.right

-- the moves that records name are there
pub moves-known : (part : GridList) (places : List Record) (early late : List MoveSets) (ranks : ℕ → ℕ → List ℕ) (CanAsk : ℕ → ℕ → Type 0)
    → AreRecords part places early late ranks CanAsk → All (λ entry. entry.of < length early) places × All (λ entry. entry.of < length late) places
moves-known part places early late ranks CanAsk records = (
  (λ k d inside. (records.known (get_or places k d) (Contains-get_or places k d inside)).0),
  (λ k d inside. (records.known (get_or places k d) (Contains-get_or places k d inside)).1),
)
