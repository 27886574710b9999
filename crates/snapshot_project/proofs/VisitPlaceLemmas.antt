-- Where the paths of a prefix are among the places of one sequence: at its live states.
use Rattle.std.proofs.Common.{◌≡◌, ◌↔◌, ℕ, zero, suc, ◌+◌, ◌-◌, ◌≤◌, ◌<◌, ◌⊎◌, inl, inr, Bool, true, false, Some, List, [], ◌∷◌, length, get_or, drop, refl, sym, ap, ◌∙◌, subst, arith}
use Rattle.std.specs.List.{All, AllZip, Contains, slice_get, slice_index}
use Rattle.std.proofs.lemmas.Bool.{cases_lt}
use Rattle.std.proofs.lemmas.List.Elements.{Contains-get_or}
use Rattle.state_bits.specs.Members.{Has}
use Rattle.mine_model.specs.declared.item.Item.{Item}
use Rattle.fst_compile.specs.Transducer.{Leads}
use Rattle.mining_job.specs.declared.bound.Bound.{Bound}
use Rattle.mining_job.specs.Problems.{Problem, IsWhole}
use Rattle.sequence_grids.specs.Grids.{GridList, Continues, Reads, items_at}
use Rattle.sequence_grids.specs.Kinds.{IsTarget}
use Rattle.sequence_grids.specs.Successors.{AreSuccessors}
use Rattle.sequence_grids.proofs.GridLemmas.{item_there}
use Rattle.sequence_grids.proofs.PathLemmas.{path-step, target-of}
use Rattle.walk_memo.specs.declared.action.Action.{Action}
use Rattle.walk_memo.specs.Moves.{MoveSets}
use Rattle.walk_places.specs.declared.places.Record.{Record}
use Rattle.place_walk.specs.declared.stand.Stand.{Stand}
use Rattle.place_walk.specs.Courses.{Course, Holds, IsWall}
use Rattle.place_walk.specs.Stands.{StandsAt, IsAt, Arrives as Walks}
use Rattle.place_walk.specs.Visits.{IsVisit}
use Rattle.place_walk.proofs.StandLemmas.{one-move, wall-stops}
use Rattle.place_records.specs.Records.{start_of, IsMoveAt, AreRanksAt, IsDead, AreRecords}
use Rattle.snapshot_project.specs.declared.snapshot.Snapshot.{Snapshot}
use Rattle.snapshot_project.specs.Aims.{goes}
use Rattle.snapshot_project.specs.Snapshots.{HasSnapshot, WritesOn}
use Rattle.snapshot_project.specs.Live.{IsLive}
use Rattle.snapshot_project.specs.Walks.{AreGroupOf, StandsIn, Arrives}
use Rattle.snapshot_project.specs.Stands.{IsStandOf}
use Rattle.snapshot_project.specs.Grouped.{course_for}
use Rattle.snapshot_project.proofs.LiveLemmas.{cut-rest, live-snapshot}
use Rattle.snapshot_project.proofs.SnapshotLemmas.{snapshot-state}
use Rattle.snapshot_project.proofs.GroupLemmas.{zip-known}
use Rattle.snapshot_project.proofs.StandLemmas.{zip-back}
use Rattle.snapshot_project.proofs.WalkLemmas.{arrives-completes, useful-live, live-useful}

-- from a state from which a silent edge leads to one that writes on behind the item a path writes on before it
pub continues-earlier : (problem : Problem) → IsWhole problem → (bound : Bound) (items : List Item) (position : ℕ) (t : Item) → slice_get items position ≡ Some t
    → (from state : ℕ) → Leads problem.transducer from state → Reads problem t state [] → (on : Bool) → Continues problem bound (drop (position + 1) items) state on
    → Continues problem bound (drop position items) from on
continues-earlier problem whole bound items position t here from state leads reads on (v, more, path, allowed, met) =
    subst (λ (rest : List Item). Continues problem bound rest from on) (sym (cut-rest items position t here)) (
      v,
      more,
      (path-step problem whole from t (drop (position + 1) items) (v ∷ more)).1 (state, [], v ∷ more, leads, reads, refl, path),
      allowed,
      met,
    )

-- ---- what stands at the places

module _ (part : GridList) (places : List Record) (early late : List MoveSets) (ranks : ℕ → ℕ → List ℕ) (CanAsk : ℕ → ℕ → Type 0)
    (records : AreRecords part places early late ranks CanAsk) (rows : List ℕ) (grid : ℕ) (known : grid < length part.sequences) where
  -- what a walk meets at the place of an item: its record, the move of it that is taken, what they say
  pub record IsMet (on : Bool) (position : ℕ) (t : Item) : Type 0 where
    pub entry : Record
    pub move : MoveSets
    pub holds : Holds (course_for rows places early late on) (start_of part grid + position) entry move
    pub asked : (k : ℕ) → IsTarget part.problem k → CanAsk entry.kind k
    pub ranks_are : (k : ℕ) → IsTarget part.problem k → AreRanksAt part.problem part.bound t ranks entry.kind k
    pub does : (k : ℕ) → IsTarget part.problem k → IsMoveAt part.problem part.bound on t (drop (position + 1) (items_at part grid)) move k

  pub met-at : (on : Bool) (position : ℕ) (t : Item) → slice_get (items_at part grid) position ≡ Some t → IsMet on position t
  met-at true position t here =
      let (entry, at, is) = records.at grid position t known here in
      record {
        entry = entry;
        move = is.behind;
        holds = record { entry_is = at; move_is = is.names.late_is };
        asked = is.asked;
        ranks_are = is.ranks_are;
        does = is.late_is;
      }
  met-at false position t here =
      let (entry, at, is) = records.at grid position t known here in
      record {
        entry = entry;
        move = is.before;
        holds = record { entry_is = at; move_is = is.names.early_is };
        asked = is.asked;
        ranks_are = is.ranks_are;
        does = is.early_is;
      }

  -- behind the sequence nothing is entered, and nothing is written
  pub dead-behind : (on : Bool) → (entry : Record) × (move : MoveSets)
      × Holds (course_for rows places early late on) (start_of part grid + length (items_at part grid)) entry move × IsDead move
  dead-behind true =
      let (entry, before, behind, at, names, dead, dead_behind) = records.wall grid known in
      (entry, behind, record { entry_is = at; move_is = names.late_is }, dead_behind)
  dead-behind false =
      let (entry, before, behind, at, names, dead, dead_behind) = records.wall grid known in
      (entry, before, record { entry_is = at; move_is = names.early_is }, dead)

  -- ---- where the stands are

  module _ (width : ℕ) (rows_are : AreSuccessors width part.problem.transducer rows) (whole : IsWhole part.problem) (prefix : List Item) (seen : Bool)
      (snapshots : List Snapshot) (group : List Stand) (stands_are : AllZip (IsStandOf part grid) snapshots group)
      (are : AreGroupOf part.problem part.bound (items_at part grid) prefix seen snapshots) where
    abbrev pub on : Bool
    on = goes seen part.bound.need

    abbrev pub course : Course
    course = course_for rows places early late on

    -- a stand is before one of the places
    pub stand-within : (stand : Stand) → Contains group stand → (position : ℕ) × (position ≤ length (items_at part grid)) × (stand.place ≡ start_of part grid + position)
    stand-within stand held =
        let (snapshot, inside, is) = zip-back (IsStandOf part grid) snapshots group stands_are stand held in
        let has : HasSnapshot part.problem part.bound (items_at part grid) prefix snapshot.position snapshot.state =
        are.right snapshot.position snapshot.state (snapshot, inside, refl, refl) in
        (snapshot.position, has.0, is.place)

    -- at a position stands what stands at its place
    pub stands-there : (position state : ℕ) → StandsAt group (start_of part grid + position) state ↔ StandsIn snapshots position state
    stands-there position state = (
      (λ (stand, held, place_is, state_is).
          let (snapshot, inside, is) = zip-back (IsStandOf part grid) snapshots group stands_are stand held in
          let place : stand.place ≡ start_of part grid + snapshot.position = is.place in
          (snapshot, inside, omega arith, sym is.state ∙ state_is)),
      (λ (snapshot, inside, position_is, state_is).
          let (stand, held, is) = zip-known (IsStandOf part grid) snapshots group stands_are snapshot inside in
          (stand, held, is.place ∙ ap (λ (k : ℕ). start_of part grid + k) position_is, is.state ∙ state_is)),
    )

    -- no path comes before the first place
    walks-low : (place state : ℕ) → Walks course group place state → start_of part grid < place
    walks-low zero state walks = absurd walks
    walks-low (suc before) state (from, entry, move, holds, either, leads, silent) = elim either [
      | inl walks ↦ let low : start_of part grid < before = walks-low before from walks in omega arith
      | inr (stand, held, place_is, state_is) ↦
          let (position, inside, place) = stand-within stand held in
          let here : stand.place ≡ start_of part grid + position = place in
          omega arith
    ]

    pub is-at-low : (place state : ℕ) → IsAt course group place state → start_of part grid ≤ place
    is-at-low place state either = elim either [
      | inl walks ↦ let low : start_of part grid < place = walks-low place state walks in omega arith
      | inr (stand, held, place_is, state_is) ↦
          let (position, inside, place_at) = stand-within stand held in
          let here : stand.place ≡ start_of part grid + position = place_at in
          omega arith
    ]

    -- ---- the silent steps

    pub row-leads : (from state : ℕ) → from ≤ length part.problem.transducer.labels → Has (slice_index rows from) state ↔ Leads part.problem.transducer from state
    row-leads from state inside = rows_are.leads from state inside

    snapshot-within : (position state : ℕ) → StandsIn snapshots position state → state ≤ length part.problem.transducer.labels
    snapshot-within position state stands =
        snapshot-state part.problem part.bound whole (items_at part grid) prefix position state (are.right position state stands)

    arrived-within : (position state : ℕ) → Arrives part.problem part.bound (items_at part grid) snapshots on position state → state ≤ length part.problem.transducer.labels
    arrived-within zero state arrives = absurd arrives
    arrived-within (suc before) state (t, from, here, earlier, leads, reads, completes) = (target-of part.problem whole from state leads).1

    either-within : (position state : ℕ) → Arrives part.problem part.bound (items_at part grid) snapshots on position state ⊎ StandsIn snapshots position state
        → state ≤ length part.problem.transducer.labels
    either-within position state either = elim either [ inl arrives ↦ arrived-within position state arrives | inr stands ↦ snapshot-within position state stands ]

    arrives-down : (position state : ℕ) → position ≤ length (items_at part grid) → Walks course group (start_of part grid + position) state
        → Arrives part.problem part.bound (items_at part grid) snapshots on position state
    arrives-down zero state inside walks =
        let low : start_of part grid < start_of part grid + 0 = walks-low (start_of part grid + 0) state walks in
        absurd (omega arith)
    arrives-down (suc before) state inside walks =
        let next : start_of part grid + suc before ≡ suc (start_of part grid + before) = omega arith in
        let (from, entry, move, holds, either, leads, silent) = subst (λ (p : ℕ). Walks course group p state) next walks in
        let (t, here) = item_there (items_at part grid) before (omega arith) in
        let met = met-at on before t here in
        let earlier : Arrives part.problem part.bound (items_at part grid) snapshots on before from ⊎ StandsIn snapshots before from = elim either [
          | inl early_walks ↦ inl (arrives-down before from (omega arith) early_walks)
          | inr stands ↦ inr ((stands-there before from).0 stands)
        ] in
        let leads_to : Leads part.problem.transducer from state = (row-leads from state (either-within before from earlier)).0 leads in
        let move_is : move ≡ met.move = one-move course (start_of part grid + before) met.entry entry met.move move met.holds holds in
        let (reads, completes) = (met.does state (target-of part.problem whole from state leads_to)).silent.0 (subst (λ (m : MoveSets). Has m.silent state) move_is silent) in
        let before_it = continues-earlier part.problem whole part.bound (items_at part grid) before t here from state leads_to reads on completes in
        (t, from, here, (earlier, before_it), leads_to, reads, completes)

    arrives-up : (position state : ℕ) → Arrives part.problem part.bound (items_at part grid) snapshots on position state
        → Walks course group (start_of part grid + position) state
    arrives-up zero state arrives = absurd arrives
    arrives-up (suc before) state (t, from, here, (earlier, before_it), leads, reads, completes) =
        let next : suc (start_of part grid + before) ≡ start_of part grid + suc before = omega arith in
        let met = met-at on before t here in
        let either : IsAt course group (start_of part grid + before) from = elim earlier [
          | inl arrives ↦ inl (arrives-up before from arrives)
          | inr stands ↦ inr ((stands-there before from).1 stands)
        ] in
        subst (λ (p : ℕ). Walks course group p state) next (
          from,
          met.entry,
          met.move,
          met.holds,
          either,
          (row-leads from state (either-within before from earlier)).1 leads,
          (met.does state (target-of part.problem whole from state leads)).silent.1 (reads, completes),
        )

    -- ---- live states

    -- where a path is, the state is live
    pub is-at-live : (position state : ℕ) → position ≤ length (items_at part grid) → IsAt course group (start_of part grid + position) state
        → IsLive part.problem part.bound (items_at part grid) prefix position state
    is-at-live position state inside either = elim either [
      | inl walks ↦
          let arrives = arrives-down position state inside walks in
          useful-live part.problem whole part.bound (items_at part grid) prefix seen snapshots are position state
          (inl arrives, arrives-completes part.problem part.bound (items_at part grid) snapshots on position state arrives)
      | inr stands ↦ live-snapshot part.problem whole part.bound (items_at part grid) prefix position state (are.right position state ((stands-there position state).0 stands))
    ]

    -- and a path is at each live state from which more can be written
    pub live-is-at : (position state : ℕ) → IsLive part.problem part.bound (items_at part grid) prefix position state
        → WritesOn part.problem part.bound prefix (drop position (items_at part grid)) state → IsAt course group (start_of part grid + position) state
    live-is-at position state live more =
        let (either, completes) = live-useful part.problem whole part.bound (items_at part grid) prefix seen snapshots are position state live more in
        elim either [
          | inl arrives ↦ inl (arrives-up position state arrives)
          | inr stands ↦ inr ((stands-there position state).1 stands)
        ]

    -- ---- the end of the sequence

    wall : IsWall course (start_of part grid + length (items_at part grid))
    wall entry move holds state silent =
        let (other, still, there, dead) = dead-behind on in
        let move_is : move ≡ still = one-move course (start_of part grid + length (items_at part grid)) other entry still move there holds in
        dead.silent state (subst (λ (m : MoveSets). Has m.silent state) move_is silent)

    stands-low : All (λ stand. stand.place ≤ start_of part grid + length (items_at part grid)) group
    stands-low k d inside =
        let stand : Stand = get_or group k d in
        let (position, within, place_at) = stand-within stand (Contains-get_or group k d inside) in
        let here : stand.place ≡ start_of part grid + position = place_at in
        omega arith

    -- each visit is of an item of the sequence
    pub visit-inside : (place kind : ℕ) (action : Action) → (is : IsVisit course group place kind action)
        → (position : ℕ) × (position < length (items_at part grid)) × (is.before ≡ start_of part grid + position)
    visit-inside place kind action is =
        let low : start_of part grid ≤ is.before = is-at-low is.before is.from is.is_at in
        let high : place ≤ (start_of part grid + length (items_at part grid)) + 1 =
        wall-stops course group (start_of part grid + length (items_at part grid)) wall stands-low place kind action is in
        let behind : place ≡ is.before + 1 = is.behind in
        elim (cases_lt is.before (start_of part grid + length (items_at part grid))) [
          | inl less ↦ (is.before - start_of part grid, omega arith, omega arith)
          | inr more ↦
              let last : is.before ≡ start_of part grid + length (items_at part grid) = omega arith in
              let (other, still, there, dead) = dead-behind on in
              let move_is : is.move ≡ still =
              one-move course (start_of part grid + length (items_at part grid)) other is.entry still is.move there
              (subst (λ (p : ℕ). Holds course p is.entry is.move) last is.holds) in
              absurd (dead.writes action.state (subst (λ (m : MoveSets). Has m.writes action.state) move_is is.writes))
        ]
