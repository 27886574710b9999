-- What a part begins with, found sequence by sequence: the stands of the empty prefix, and weights.
use Rattle.std.proofs.Common.{◌≡◌, ℕ, ◌+◌, ◌≤◌, ◌<◌, inl, inr, true, false, IsTrue, Option, Some, None, List, [], ◌∷◌, ◌++◌, length, map, replicate, refl, sym, ap, ◌∙◌, subst, arith}
use Rattle.std.specs.List.{AllPairs, AllByRecursion, Contains, slice_get, slice_index}
use Rattle.std.proofs.lemmas.Bool.{cases_lt}
use Rattle.std.proofs.lemmas.List.{length-append, length-replicate, get_or_append_left, get_or-append-add, get_or-replicate}
use Rattle.std.proofs.lemmas.List.Elements.{Contains-append_left, Contains-append_right, Contains-append_cases}
use Rattle.std.proofs.lemmas.Option.{get_or_from_slice_get, slice_get-get_or, slice_get_within, same_Some}
use Rattle.mine_model.specs.Database.{sequence_at}
use Rattle.mine_model.proofs.ElementLemmas.{get-held}
use Rattle.mine_model.proofs.ListLemmas.{Contains-cases, Contains-first, Contains-other, Contains-none, Contains-by, Contains-from, AllByRecursion-contained, AllByRecursion-from, AllPairs-head, AllPairs-tail, AllPairs-append}
use Rattle.mining_job.specs.Problems.{items_of}
use Rattle.sequence_grids.specs.Grids.{GridList, Completes, items_at}
use Rattle.place_walk.specs.declared.stand.Stand.{Stand}
use Rattle.stand_sums.specs.Sequences.{weight_at}
use Rattle.place_records.specs.Records.{start_of}
use Rattle.snapshot_project.specs.declared.next_rank.NextRank.{NextRank}
use Rattle.snapshot_project.specs.declared.snapshot.Snapshot.{Snapshot}
use Rattle.snapshot_project.specs.Snapshots.{ComesBefore, SnapshotList, IsPart}
use Rattle.snapshot_project.specs.Stands.{AreStandsIn, StandList, TellNext, IsProjected}
use Rattle.snapshot_project.specs.Grouped.{AreWeights}
use Rattle.snapshot_project.specs.Terrains.{AreStarts}
use Rattle.snapshot_project.proofs.StartLemmas.{start-next, start-rises, place-once, sequence-at}
use Rattle.snapshot_project.proofs.ListedLemmas.{snapshots-start}

-- the stand at the start of the sequence of a grid
abbrev pub start_at : GridList → ℕ → Stand
start_at part grid = record { place = start_of part grid; state = 0; first = true }

-- ---- the starts of some sequences, and of one more

pub starts-none : (part : GridList) → AreStarts part 0 []
starts-none part = record {
  rising = λ i j d less inside. absurd (omega (arith, inside));
  exact = λ stand. ((λ held. absurd (Contains-none stand held)), (λ (grid, less, same, done). absurd (omega (arith, less))));
}

module _ (part : GridList) (grid : ℕ) (starts : List Stand) (inside : grid < length part.sequences) (are : AreStarts part grid starts) where
  last-start : (stand : Stand) → Contains (start_at part grid ∷ []) stand → stand ≡ start_at part grid
  last-start stand held = elim (Contains-cases (start_at part grid) [] stand held) [
    | inl same ↦ same
    | inr other ↦ absurd (Contains-none stand other)
  ]

  -- one that has a start
  pub starts-more : Completes part.problem part.bound (items_at part grid) 0 false → AreStarts part (grid + 1) (starts ++ start_at part grid ∷ [])
  starts-more completes = record {
    rising = AllPairs-append (λ (one other : Stand). one.place < other.place) starts (start_at part grid ∷ []) are.rising
        (λ i j d less within. absurd (omega (arith, within)))
        (λ one other early late.
        let (before, less, same, done) = (are.exact one).0 early in
        let rises : start_of part before + length (items_at part before) < start_of part grid = start-rises part before grid less (omega arith) in
        let first : one.place ≡ start_of part before = ap (λ (s : Stand). s.place) same in
        let second : other.place ≡ start_of part grid = ap (λ (s : Stand). s.place) (last-start other late) in
        omega arith);
    exact = λ stand. (
      (λ held. elim (Contains-append_cases starts (start_at part grid ∷ []) stand held) [
        | inl early ↦ let (before, less, same, done) = (are.exact stand).0 early in (before, omega arith, same, done)
        | inr late ↦ (grid, omega arith, last-start stand late, completes)
      ]),
      (λ (other, less, same, done). elim (cases_lt other grid) [
        | inl before ↦ Contains-append_left starts (start_at part grid ∷ []) stand ((are.exact stand).1 (other, before, same, done))
        | inr behind ↦
            let one : other ≡ grid = omega arith in
            Contains-append_right starts (start_at part grid ∷ []) stand
            (subst (Contains (start_at part grid ∷ [])) (sym (same ∙ ap (start_at part) one)) (Contains-first (start_at part grid) []))
      ]),
    );
  }

  -- one that has none
  pub starts-pass : (Completes part.problem part.bound (items_at part grid) 0 false → ⊥) → AreStarts part (grid + 1) starts
  starts-pass not_complete = record {
    rising = are.rising;
    exact = λ stand. (
      (λ held. let (before, less, same, done) = (are.exact stand).0 held in (before, omega arith, same, done)),
      (λ (other, less, same, done). elim (cases_lt other grid) [
        | inl before ↦ (are.exact stand).1 (other, before, same, done)
        | inr behind ↦
            let one : other ≡ grid = omega arith in
            absurd (not_complete (subst (λ (k : ℕ). Completes part.problem part.bound (items_at part k) 0 false) one done))
      ]),
    );
  }

-- ---- the snapshots that stand there

first-snapshot : (snapshot : Snapshot) (i : ℕ) → i ≡ snapshot.sequence → snapshot.position ≡ 0 → snapshot.state ≡ 0
    → record { sequence = i; position = 0; state = 0 } ≡ snapshot
first-snapshot snapshot i same position state =
    ap (λ (k : ℕ). record { sequence = k; position = 0; state = 0 }) same
    ∙ ap (λ (p : ℕ). record { sequence = snapshot.sequence; position = p; state = 0 }) (sym position)
    ∙ ap (λ (q : ℕ). record { sequence = snapshot.sequence; position = snapshot.position; state = q }) (sym state)

module _ (part : GridList) where
  -- the snapshot at the start of the sequence of a grid
  abbrev start_of_grid : ℕ → Snapshot
  start_of_grid grid = record { sequence = slice_index part.sequences grid; position = 0; state = 0 }

  abbrev HasStart : ℕ → Type 0
  HasStart grid = (grid < length part.sequences) × Completes part.problem part.bound (items_at part grid) 0 false

  -- what begins later is later
  start-before : (grid other : ℕ) → grid < length part.sequences → other < length part.sequences → start_of part grid < start_of part other → grid < other
  start-before grid other inside inside_other less = elim (cases_lt grid other) [
    | inl before ↦ before
    | inr behind ↦ elim (cases_lt other grid) [
      | inl later ↦
          let rises : start_of part other + length (items_at part other) < start_of part grid = start-rises part other grid later (omega arith) in
          absurd (omega arith)
      | inr not ↦
          let one : grid ≡ other = omega arith in
          let same : start_of part grid ≡ start_of part other = ap (start_of part) one in
          absurd (omega arith)
    ]
  ]

  -- starts are those of grids that rise
  starts-cut : (starts : List Stand) → AllPairs (λ one other. one.place < other.place) starts
      → ((stand : Stand) → Contains starts stand → (grid : ℕ) × HasStart grid × (stand ≡ start_at part grid))
      → (grids : List ℕ) × (starts ≡ map (start_at part) grids) × AllPairs (λ low high. low < high) grids × ((grid : ℕ) → Contains grids grid → HasStart grid)
  starts-cut [] rising known = ([], refl, (λ i j d less inside. absurd (omega (arith, inside))), (λ grid held. absurd (Contains-none grid held)))
  starts-cut (first ∷ starts) rising known =
      let (grid, has, here) = known first (Contains-first first starts) in
      let (grids, there, rise, all) = starts-cut starts (AllPairs-tail (λ (one other : Stand). one.place < other.place) first starts rising)
      (λ stand held. known stand (Contains-other first starts stand held)) in (
        grid ∷ grids,
        ap (λ (s : Stand). s ∷ starts) here ∙ ap (λ (l : List Stand). start_at part grid ∷ l) there,
        AllPairs-append (λ (low high : ℕ). low < high) (grid ∷ []) grids (λ i j d less inside. absurd (omega (arith, inside))) rise (λ low high one other.
            let same : low ≡ grid = elim (Contains-cases grid [] low one) [ inl is ↦ is | inr none ↦ absurd (Contains-none low none) ] in
            let held : Contains starts (start_at part high) = subst (λ (l : List Stand). Contains l (start_at part high)) (sym there) (Contains-by (start_at part) grids high other) in
            let places : first.place < start_of part high = AllPairs-head (λ (one other : Stand). one.place < other.place) first starts rising (start_at part high) held in
            let begins : first.place ≡ start_of part grid = ap (λ (s : Stand). s.place) here in
            let less : grid < high = start-before grid high has.0 (all high other).0 (omega arith) in
            omega arith),
        (λ other held. elim (Contains-cases grid grids other held) [
          | inl same ↦ subst HasStart (sym same) has
          | inr later ↦ all other later
        ]),
      )

  -- each is a group of its own
  starts-in : (grids : List ℕ) → ((grid : ℕ) → Contains grids grid → HasStart grid) → AreStandsIn part grids (map start_of_grid grids) (map (start_at part) grids)
  starts-in [] all = (refl, refl)
  starts-in (grid ∷ grids) all = (
    start_of_grid grid ∷ [],
    map start_of_grid grids,
    refl,
    start_at part grid ∷ [],
    map (start_at part) grids,
    refl,
    record {
      marked = record {
        some = omega arith;
        marked = λ k stand at.
            let within : k < 1 = slice_get_within (start_at part grid ∷ []) k stand at in
            let zero : k ≡ 0 = omega arith in
            let same : start_at part grid ≡ stand = same_Some (start_at part grid) stand (subst (λ (i : ℕ). slice_get (start_at part grid ∷ []) i ≡ Some stand) zero at) in
            ((λ first. zero), (λ first. subst (λ (s : Stand). IsTrue s.first) same refl));
      };
      are = (
        record {
          sequence = slice_get-get_or part.sequences grid 0 (all grid (Contains-first grid grids)).0;
          place = omega arith;
          state = refl;
        },
        tt,
      );
    },
    starts-in grids (λ other held. all other (Contains-other grid grids other held)),
  )

  module _ (is : IsPart part) where
    snapshots-rising : (grids : List ℕ) → AllPairs (λ low high. low < high) grids → ((grid : ℕ) → Contains grids grid → HasStart grid)
        → AllPairs ComesBefore (map start_of_grid grids)
    snapshots-rising [] rising all = λ i j d less inside. absurd (omega (arith, inside))
    snapshots-rising (grid ∷ grids) rising all =
        AllPairs-append ComesBefore (start_of_grid grid ∷ []) (map start_of_grid grids) (λ i j d less inside. absurd (omega (arith, inside)))
        (snapshots-rising grids (AllPairs-tail (λ (low high : ℕ). low < high) grid grids rising) (λ other held. all other (Contains-other grid grids other held)))
        (λ one other first later.
        let here : one ≡ start_of_grid grid = elim (Contains-cases (start_of_grid grid) [] one first) [ inl same ↦ same | inr none ↦ absurd (Contains-none one none) ] in
        let (high, held, there) = Contains-from start_of_grid grids other later in
        let less : grid < high = AllPairs-head (λ (low high : ℕ). low < high) grid grids rising high held in
        let (within, done) = all high (Contains-other grid grids high held) in
        let rises : slice_index part.sequences grid < slice_index part.sequences high = is.rising grid high 0 less within in
        let one_is : one.sequence ≡ slice_index part.sequences grid = ap (λ (s : Snapshot). s.sequence) here in
        let other_is : other.sequence ≡ slice_index part.sequences high = ap (λ (s : Snapshot). s.sequence) there in
        inl (omega arith))

    -- the starts of all sequences are what is kept of the empty prefix
    pub starts-projected : (starts : List Stand) → AreStarts part (length part.sequences) starts → (list : StandList)
        → list ≡ record { seen = false; support = 0; stands = starts; next = None; bytes = None } → (least : ℕ) → IsProjected part least [] list
    starts-projected starts are list same least =
        let (grids, cut, rising, all) = starts-cut starts are.rising (λ stand held.
        let (grid, inside, here, completes) = (are.exact stand).0 held in (grid, (inside, completes), here)) in
        let snapshots : SnapshotList = record { seen = false; support = 0; snapshots = map start_of_grid grids } in
        let places : list.stands ≡ map (start_at part) grids = ap (λ (l : StandList). l.stands) same ∙ cut in
        record {
          snapshots = snapshots;
          are = snapshots-start part is.whole snapshots refl refl (snapshots-rising grids rising all) (λ snapshot. (
            (λ held.
                let (grid, inside, here) = Contains-from start_of_grid grids snapshot held in
                let (within, completes) = all grid inside in
                let sequence : snapshot.sequence ≡ slice_index part.sequences grid = ap (λ (s : Snapshot). s.sequence) here in (
                  subst (Contains part.sequences) (sym sequence) (get-held part.sequences grid (slice_index part.sequences grid) (slice_get-get_or part.sequences grid 0 within)),
                  ap (λ (s : Snapshot). s.position) here,
                  ap (λ (s : Snapshot). s.state) here,
                  subst (λ (i : ℕ). Completes part.problem part.bound (items_of part.problem i) 0 false) (sym sequence) completes,
                )),
            (λ ((grid, within, is_here), position, state, completes).
                let at : slice_get part.sequences grid ≡ Some snapshot.sequence = slice_get-get_or part.sequences grid snapshot.sequence within ∙ ap Some is_here in
                let (inside, index) = sequence-at part grid snapshot.sequence at in
                let begun : Contains starts (start_at part grid) = (are.exact (start_at part grid)).1
                (grid, within, refl, subst (λ (i : ℕ). Completes part.problem part.bound (items_of part.problem i) 0 false) (sym index) completes) in
                let (other, held, also) = Contains-from (start_at part) grids (start_at part grid) (subst (λ (l : List Stand). Contains l (start_at part grid)) cut begun) in
                let starts_are : start_of part grid ≡ start_of part other = ap (λ (s : Stand). s.place) also in
                let (one, zero) = place-once part grid 0 other 0 within (all other held).0 (omega arith) (omega arith) (omega arith) in
                let number : slice_index part.sequences other ≡ snapshot.sequence = subst (λ (k : ℕ). slice_index part.sequences k ≡ snapshot.sequence) one index in
                let here : start_of_grid other ≡ snapshot = first-snapshot snapshot (slice_index part.sequences other) number position state in
                subst (Contains (map start_of_grid grids)) here (Contains-by start_of_grid grids other held)),
          ));
          seen = ap (λ (l : StandList). l.seen) same;
          support = ap (λ (l : StandList). l.support) same;
          stands = subst (TellNext part least [] snapshots list.stands list.next) (sym (ap (λ (l : StandList). l.bytes) same))
              (subst (λ (next : Option (List NextRank)). TellNext part least [] snapshots list.stands next None) (sym (ap (λ (l : StandList). l.next) same)) (inl (record {
                grids = grids;
                rising = rising;
                are = subst (AreStandsIn part grids (map start_of_grid grids)) (sym places) (starts-in grids all);
              })));
        }

-- ---- what the sequences weigh

-- each place of the first so many sequences has the weight of its sequence
pub record AreWeightsBefore (part : GridList) (count : ℕ) (weights : List ℕ) : Type 0 where
  pub long : length weights ≡ start_of part count
  pub right : (grid position : ℕ) → grid < count → position ≤ length (items_at part grid)
      → weight_at weights (start_of part grid + position) ≡ (sequence_at part.problem.sequences (slice_index part.sequences grid)).weight

module _ (part : GridList) where
  pub weights-none : AreWeightsBefore part 0 []
  weights-none = record { long = refl; right = λ grid position less most. absurd (omega (arith, less)) }

  -- those of one sequence more
  pub weights-more : (grid : ℕ) (weights : List ℕ) → grid < length part.sequences → AreWeightsBefore part grid weights → (weight places : ℕ)
      → weight ≡ (sequence_at part.problem.sequences (slice_index part.sequences grid)).weight → places ≡ length (items_at part grid) + 1
      → AreWeightsBefore part (grid + 1) (weights ++ replicate places weight)
  weights-more grid weights inside before weight places is long =
      let next : start_of part (grid + 1) ≡ start_of part grid + length (items_at part grid) + 1 = start-next part grid inside in
      let early : length weights ≡ start_of part grid = before.long in
      let both : length (weights ++ replicate places weight) ≡ length weights + length (replicate places weight) = length-append weights (replicate places weight) in
      let late : length (replicate places weight) ≡ places = length-replicate places weight in
      record {
        long = omega arith;
        right = λ other position less most. elim (cases_lt other grid) [
          | inl behind ↦
              let rises : start_of part other + length (items_at part other) < start_of part grid = start-rises part other grid behind (omega arith) in
              get_or_append_left weights (replicate places weight) 1 (start_of part other + position) (omega arith) ∙ before.right other position behind most
          | inr last ↦
              let one : other ≡ grid = omega arith in
              let items : length (items_at part other) ≡ length (items_at part grid) = ap (λ (k : ℕ). length (items_at part k)) one in
              let starts : start_of part other ≡ start_of part grid = ap (start_of part) one in
              let place : start_of part other + position ≡ length weights + position = omega arith in
              ap (weight_at (weights ++ replicate places weight)) place ∙ get_or-append-add weights (replicate places weight) position 1
              ∙ get_or-replicate places position weight 1 (omega arith) ∙ is
              ∙ ap (λ (k : ℕ). (sequence_at part.problem.sequences (slice_index part.sequences k)).weight) (sym one)
        ];
      }

  -- those of all
  pub weights-all : (weights : List ℕ) → AreWeightsBefore part (length part.sequences) weights → AreWeights part weights
  weights-all weights are = λ grid position inside most. are.right grid position inside most

  -- none are told where each is 1
  pub weights-one : AllByRecursion (λ i. (sequence_at part.problem.sequences i).weight ≡ 1) part.sequences → AreWeights part []
  weights-one ones = λ grid position inside most.
      sym (AllByRecursion-contained (λ i. (sequence_at part.problem.sequences i).weight ≡ 1) part.sequences (slice_index part.sequences grid) ones
      (get-held part.sequences grid (slice_index part.sequences grid) (slice_get-get_or part.sequences grid 0 inside)))

-- what holds of the number at each place holds of each number
pub all-by-place : (P : ℕ → Type 0) (numbers : List ℕ) → ((k : ℕ) → k < length numbers → P (slice_index numbers k)) → AllByRecursion P numbers
all-by-place P numbers holds = AllByRecursion-from P numbers (λ i (k, inside, is).
    subst P (get_or_from_slice_get numbers k i 0 (slice_get-get_or numbers k i inside ∙ ap Some is)) (holds k inside))
