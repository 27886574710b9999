-- Paths over the places of a part write what paths of the transducer write.
use Rattle.std.proofs.Common.{◌≡◌, ◌↔◌, ℕ, zero, suc, ◌+◌, ◌≤◌, ◌<◌, ◌⊎◌, inl, inr, Bool, true, false, if◌then◌else◌, IsTrue, Option, Some, None, List, [], ◌∷◌, length, drop, refl, sym, ap, ◌∙◌, subst, arith}
use Rattle.std.specs.List.{Contains, slice_get, slice_index}
use Rattle.std.proofs.lemmas.Bool.{and_parts, and_from, cases_lt}
use Rattle.std.proofs.lemmas.List.{drop_all}
use Rattle.std.proofs.lemmas.Option.{slice_get_within}
use Rattle.state_bits.specs.Members.{Has}
use Rattle.mine_model.specs.declared.item.Item.{Item}
use Rattle.mine_model.proofs.ListLemmas.{Contains-cases, Contains-first, Contains-none}
use Rattle.mine_model.proofs.ElementLemmas.{among-held}
use Rattle.fst_compile.specs.Transducer.{Leads}
use Rattle.sequence_grids.specs.Grids.{GridList, Continues, Ends, WritesRank, items_at}
use Rattle.sequence_grids.specs.Kinds.{IsTarget}
use Rattle.sequence_grids.specs.Successors.{AreSuccessors}
use Rattle.sequence_grids.proofs.GridLemmas.{item_there, both_ways, continues-unseen}
use Rattle.sequence_grids.proofs.KindLemmas.{nil-not-cons}
use Rattle.sequence_grids.proofs.PathLemmas.{target-of}
use Rattle.walk_memo.specs.declared.action.Action.{Action}
use Rattle.walk_memo.specs.Moves.{MoveSets}
use Rattle.place_walk.specs.declared.stand.Stand.{Stand}
use Rattle.place_walk.specs.declared.visit.Visit.{Visit}
use Rattle.place_walk.specs.Courses.{Holds}
use Rattle.place_walk.specs.Stands.{StandsAt, Arrives, IsAt}
use Rattle.place_walk.specs.Visits.{IsVisit}
use Rattle.place_walk.proofs.StandLemmas.{one-move}
use Rattle.stand_sums.specs.declared.aim.Aim.{Aim}
use Rattle.stand_sums.specs.Aims.{sees_with}
use Rattle.stand_sums.specs.Writings.{writes, goes_on, stops}
use Rattle.stand_sums.specs.Files.{stand_at}
use Rattle.candidate_graph.specs.Courses.{Courses, course_in}
use Rattle.candidate_graph.specs.Graphs.{Standpoint, aim_at}
use Rattle.candidate_graph.specs.Paths.{step_to, CanWrite}
use Rattle.place_records.specs.Records.{start_of, goes_with, IsMoveAt, AreRecords}
use Rattle.place_records.specs.Ranks.{ranks_of, CanAskOf}
use Rattle.place_records.specs.Values.{RecordsValue}
use Rattle.snapshot_project.specs.Aims.{goes}
use Rattle.snapshot_project.specs.Grouped.{course_for}
use Rattle.snapshot_project.specs.Snapshots.{IsPart}
use Rattle.snapshot_project.proofs.LiveLemmas.{cut-rest}
use Rattle.snapshot_project.proofs.ListedLemmas.{goes-unseen}
use Rattle.snapshot_project.proofs.StartLemmas.{place-once}
use Rattle.snapshot_project.proofs.VisitLemmas.{has-decided, goes-on_seen}
use Rattle.snapshot_project.proofs.VisitPlaceLemmas.{met-at}
use Rattle.sequence_candidates.specs.Writings.{WritesRanks, WritesFrom, AreWrittenFrom}
use Rattle.sequence_candidates.specs.Terrains.{courses_over}
use Rattle.sequence_candidates.proofs.WriteLemmas.{silent-writes, rank-writes, ends-writes, writes-ends, writes-continues, seen-completes, none-writes, writes-first}
use Rattle.sequence_candidates.proofs.PlaceLemmas.{dead-before, row-leads, visit-taken}
use Rattle.mask_sums.proofs.SetLemmas.{among-to}

pub marks-say : (A : Bool → Type 0) (need : Option ℕ) (action : Action) → IsTrue action.more ↔ A (goes_with need) → IsTrue action.unseen ↔ A false
    → (b : Bool) → IsTrue (if b then action.more else action.unseen) ↔ A (goes b need)
marks-say A need action more unseen true = subst (λ (b : Bool). IsTrue action.more ↔ A b) (sym (goes-on_seen need)) more
marks-say A need action more unseen false = subst (λ (b : Bool). IsTrue action.unseen ↔ A b) (sym (goes-unseen need)) unseen

module _ (part : GridList) (is : IsPart part) (width : ℕ) (rows : List ℕ) (rows_are : AreSuccessors width part.problem.transducer rows) (value : RecordsValue)
    (records : AreRecords part value.places value.early value.late (ranks_of value.table) (CanAskOf value.table)) where
  abbrev need : Option ℕ
  need = part.bound.need

  abbrev courses : Courses
  courses = courses_over rows value need

  abbrev ranks : ℕ → ℕ → List ℕ
  ranks = ranks_of value.table

  abbrev rest_from : ℕ → ℕ → List Item
  rest_from grid position = drop position (items_at part grid)

  -- ---- from what a path over the places writes

  stand-writes : (stands : List Stand) (seen : Bool) (place state : ℕ) (list : List ℕ) (grid position : ℕ) → grid < length part.sequences
      → position ≤ length (items_at part grid) → place ≡ start_of part grid + position
      → WritesRanks part.problem part.bound (rest_from grid position) state seen list → StandsAt stands place state → AreWrittenFrom part seen list stands
  stand-writes stands seen place state list grid position known within place_is behind (stand, held, is_place, is_state) = (
    stand,
    held,
    record {
      grid = grid;
      position = position;
      known = known;
      within = within;
      place_is = is_place ∙ place_is;
      writes = subst (λ (s : ℕ). WritesRanks part.problem part.bound (rest_from grid position) s seen list) (sym is_state) behind;
    },
  )

  -- where a path is, it has come in silence from one of the stands
  silent-back : (seen : Bool) (stands : List Stand) (list : List ℕ) (place state : ℕ) → IsAt (course_in courses seen) stands place state
      → (grid position : ℕ) → grid < length part.sequences → position ≤ length (items_at part grid) → place ≡ start_of part grid + position
      → WritesRanks part.problem part.bound (rest_from grid position) state seen list → AreWrittenFrom part seen list stands
  silent-back seen stands list zero state either grid position known within place_is behind = elim either [
    | inl none ↦ absurd none
    | inr stand ↦ stand-writes stands seen zero state list grid position known within place_is behind stand
  ]
  silent-back seen stands list (suc before) state either grid zero known within place_is behind = elim either [
    | inl (from, entry, move, holds, earlier, leads, silent) ↦
        let start : start_of part grid ≡ suc before = omega (arith, place_is) in
        absurd ((dead-before part is width rows rows_are value.places value.early value.late ranks (CanAskOf value.table) records
        (goes seen need) grid before (omega (arith, known)) start entry move holds).silent state silent)
    | inr stand ↦ stand-writes stands seen (suc before) state list grid zero known within place_is behind stand
  ]
  silent-back seen stands list (suc before) state either grid (suc position) known within place_is behind = elim either [
    | inl (from, entry, move, holds, earlier, leads, silent) ↦
        let on : Bool = goes seen need in
        let course = course_for rows value.places value.early value.late on in
        let before_is : before ≡ start_of part grid + position = omega (arith, place_is) in
        let (t, here) = item_there (items_at part grid) position (omega (arith, within)) in
        let met = met-at part value.places value.early value.late ranks (CanAskOf value.table) records rows grid known on position t here in
        let there : Holds course (start_of part grid + position) entry move = subst (λ (p : ℕ). Holds course p entry move) before_is holds in
        let move_is : move ≡ met.move = one-move course (start_of part grid + position) met.entry entry met.move move met.holds there in
        let leads_to : Leads part.problem.transducer from state =
        row-leads part is width rows rows_are value.places value.early value.late ranks (CanAskOf value.table) records from state leads in
        let target : IsTarget part.problem state = target-of part.problem is.whole from state leads_to in
        let (reads, completes) = (met.does state target).silent.0 (subst (λ (m : MoveSets). Has m.silent state) move_is silent) in
        let next : suc position ≡ position + 1 = omega arith in
        let here_writes : WritesRanks part.problem part.bound (t ∷ drop (position + 1) (items_at part grid)) from seen list =
        silent-writes part.problem is.whole part.bound t (drop (position + 1) (items_at part grid)) from state seen list leads_to reads
        (subst (λ (k : ℕ). WritesRanks part.problem part.bound (rest_from grid k) state seen list) next behind) in
        silent-back seen stands list before from earlier grid position known (omega (arith, within)) before_is
        (subst (λ (l : List Item). WritesRanks part.problem part.bound l from seen list) (sym (cut-rest (items_at part grid) position t here)) here_writes)
    | inr stand ↦ stand-writes stands seen (suc before) state list grid (suc position) known within place_is behind stand
  ]

  -- what paths write over the places, paths of the transducer write from one of the stands
  pub can-writes : (list : List ℕ) (at : Standpoint) → CanWrite courses ranks need at list → AreWrittenFrom part at.seen list at.stands
  can-writes [] at none = absurd none
  can-writes (rank ∷ rest) at (visit, is_visit, either) =
      let taken = visit-taken part is width rows rows_are value.places value.early value.late ranks (CanAskOf value.table) records
      (goes at.seen need) at.stands visit.place visit.kind visit.action is_visit in
      let aim : Aim = aim_at at need in
      let sees : Bool = sees_with at.seen need rank in
      let items : List Item = items_at part taken.grid in
      let inside : taken.position < length items = slice_get_within items taken.position taken.t taken.here in
      let before_is : is_visit.before ≡ start_of part taken.grid + taken.position = taken.before_is in
      let place_is : visit.place ≡ is_visit.before + 1 = is_visit.behind in
      let (writes_it, behind) : IsTrue (writes ranks rank visit)
      × WritesRanks part.problem part.bound (drop (taken.position + 1) items) visit.action.state sees rest = elim either [
        | inl (none, ending) ↦
            let (writes_it, stop) = and_parts (writes ranks rank visit) (stops aim rank visit.action) ending in
            let (sees_it, over) = and_parts sees visit.action.ends stop in (
              writes_it,
              subst (λ (l : List ℕ). WritesRanks part.problem part.bound (drop (taken.position + 1) items) visit.action.state sees l) (sym none)
                  (ends-writes part.problem is.whole part.bound (drop (taken.position + 1) items) visit.action.state sees sees_it (taken.ends.0 over)),
            )
        | inr (opening, can) ↦
            let (writes_it, on) = and_parts (writes ranks rank visit) (goes_on aim rank visit.action) opening in
            let (stand, held, from) = can-writes rest (step_to at need rank visit) can in
            (writes_it, only-stand taken.grid taken.position visit sees rest taken.known inside (omega (arith, place_is, before_is)) stand held from)
      ] in
      let writes_rank : WritesRank part.problem part.bound taken.t visit.action.state rank =
      (taken.ranks_are.exact rank).0 (among-held rank (ranks visit.kind visit.action.state) writes_it) in
      let all : WritesRanks part.problem part.bound (taken.t ∷ drop (taken.position + 1) items) is_visit.from at.seen (rank ∷ rest) =
      rank-writes part.problem is.whole part.bound taken.t (drop (taken.position + 1) items) is_visit.from visit.action.state at.seen rank rest taken.leads writes_rank behind in
      silent-back at.seen at.stands (rank ∷ rest) is_visit.before is_visit.from is_visit.is_at taken.grid taken.position taken.known (omega (arith, inside)) before_is
      (subst (λ (l : List Item). WritesRanks part.problem part.bound l is_visit.from at.seen (rank ∷ rest)) (sym (cut-rest items taken.position taken.t taken.here)) all)
    where
      -- the stand behind the visit is at the next position
      only-stand : (grid position : ℕ) (visit : Visit) (sees : Bool) (rest : List ℕ) → grid < length part.sequences → position < length (items_at part grid)
          → visit.place ≡ start_of part grid + (position + 1) → (stand : Stand) → Contains (stand_at true visit ∷ []) stand
          → WritesFrom part sees rest stand.place stand.state
          → WritesRanks part.problem part.bound (drop (position + 1) (items_at part grid)) visit.action.state sees rest
      only-stand grid position visit sees rest known inside place_is stand held from = elim (Contains-cases (stand_at true visit) [] stand held) [
        | inl same ↦
            let place : stand.place ≡ visit.place = ap (λ (s : Stand). s.place) same in
            let state : stand.state ≡ visit.action.state = ap (λ (s : Stand). s.state) same in
            let there : start_of part from.grid + from.position ≡ start_of part grid + (position + 1) = sym from.place_is ∙ place ∙ place_is in
            let (grid_is, position_is) = place-once part from.grid from.position grid (position + 1) from.known known from.within (omega (arith, inside)) there in
            subst (λ (s : ℕ). WritesRanks part.problem part.bound (rest_from grid (position + 1)) s sees rest) state
            (subst (λ (p : ℕ). WritesRanks part.problem part.bound (rest_from grid p) stand.state sees rest) position_is
            (subst (λ (g : ℕ). WritesRanks part.problem part.bound (rest_from g from.position) stand.state sees rest) grid_is from.writes))
        | inr none ↦ absurd (Contains-none stand none)
      ]

  -- ---- to what a path over the places writes

  module _ (grid : ℕ) (known : grid < length part.sequences) where
    abbrev items : List Item
    items = items_at part grid

    -- the first of the rest
    cut-first : (position : ℕ) (t : Item) (left : List Item) → drop position items ≡ t ∷ left → position ≤ length items
        → (slice_get items position ≡ Some t) × (drop (position + 1) items ≡ left) × (position < length items)
    cut-first position t left cut within = elim (cases_lt position (length items)) [
      | inl inside ↦
          let (u, here) = item_there items position inside in
          let both : u ∷ drop (position + 1) items ≡ t ∷ left = sym (cut-rest items position u here) ∙ cut in
          let first : u ≡ t = cc in
          let others : drop (position + 1) items ≡ left = cc in
          (here ∙ ap Some first, others, inside)
      | inr past ↦
          let none : drop position items ≡ [] = drop_all position items past in
          absurd (nil-not-cons t left (sym none ∙ cut))
    ]

    -- a path goes on to the next place in silence
    record Steps (at : Standpoint) (position : ℕ) (left : List Item) (next rank : ℕ) (rest : List ℕ) : Type 0 where
      is_at : IsAt (course_in courses at.seen) at.stands (start_of part grid + (position + 1)) next
      later : WritesRanks part.problem part.bound left next at.seen (rank ∷ rest)

    -- or writes there
    record Visits (at : Standpoint) (position : ℕ) (left : List Item) (next rank : ℕ) (rest : List ℕ) : Type 0 where
      visit : Visit
      is_visit : IsVisit (course_in courses at.seen) at.stands visit.place visit.kind visit.action
      place_is : visit.place ≡ start_of part grid + (position + 1)
      state_is : visit.action.state ≡ next
      writes_it : IsTrue (writes ranks rank visit)
      on : IsTrue (if sees_with at.seen need rank then visit.action.more else visit.action.unseen)
          ↔ Continues part.problem part.bound left next (goes (sees_with at.seen need rank) need)
      over : IsTrue visit.action.ends ↔ Ends part.problem left next
      later : WritesRanks part.problem part.bound left next (sees_with at.seen need rank) rest

    first-step : (t : Item) (left : List Item) (position : ℕ) → slice_get items position ≡ Some t → drop (position + 1) items ≡ left → (at : Standpoint) (state : ℕ)
        → state ≤ length part.problem.transducer.labels → IsAt (course_in courses at.seen) at.stands (start_of part grid + position) state
        → (rank : ℕ) (rest : List ℕ) → WritesRanks part.problem part.bound (t ∷ left) state at.seen (rank ∷ rest)
        → (next : ℕ) × IsTarget part.problem next × (Steps at position left next rank rest ⊎ Visits at position left next rank rest)
    first-step t left position here cut at state state_in is_at rank rest behind =
        let on : Bool = goes at.seen need in
        let met = met-at part value.places value.early value.late ranks (CanAskOf value.table) records rows grid known on position t here in
        let (next, first) = writes-first part.problem is.whole part.bound t left state at.seen rank rest behind in
        let target : IsTarget part.problem next = target-of part.problem is.whole state next first.leads in
        let row : Has (slice_index rows state) next = (rows_are.leads state next state_in).1 first.leads in
        let does : IsMoveAt part.problem part.bound on t left met.move next =
        subst (λ (l : List Item). IsMoveAt part.problem part.bound on t l met.move next) cut (met.does next target) in (
          next,
          target,
          elim first.does [
            | inl (reads, later) ↦
                let continues : Continues part.problem part.bound left next on =
                writes-continues part.problem is.whole part.bound left next at.seen rank rest later in
                let place_is : suc (start_of part grid + position) ≡ start_of part grid + (position + 1) = omega arith in
                let arrives : Arrives (course_in courses at.seen) at.stands (suc (start_of part grid + position)) next =
                (state, met.entry, met.move, met.holds, is_at, row, does.silent.1 (reads, continues)) in
                inl (record { is_at = inl (subst (λ (p : ℕ). Arrives (course_in courses at.seen) at.stands p next) place_is arrives); later = later })
            | inr (writes_rank, later) ↦
                let sees : Bool = sees_with at.seen need rank in
                let (more, more_is) = has-decided met.move.more next in
                let (unseen, unseen_is) = has-decided met.move.unseen next in
                let (ending, ending_is) = has-decided met.move.ends next in
                let action : Action = record { state = next; more = more; unseen = unseen; ends = ending } in
                let has : Has met.move.writes next = does.writes.1 ((rank, writes_rank), seen-completes part.problem is.whole part.bound left next sees rest later) in
                inr (record {
                  visit = record { place = start_of part grid + (position + 1); kind = met.entry.kind; action = action; first = true };
                  is_visit = record {
                    before = start_of part grid + position;
                    behind = let e : start_of part grid + (position + 1) ≡ (start_of part grid + position) + 1 = omega arith in e;
                    entry = met.entry;
                    move = met.move;
                    holds = met.holds;
                    kind_is = refl;
                    from = state;
                    is_at = is_at;
                    leads = row;
                    writes = has;
                    marks = record { more = more_is; unseen = unseen_is; ends = ending_is };
                  };
                  place_is = refl;
                  state_is = refl;
                  writes_it = among-to rank (ranks met.entry.kind next) (((met.ranks_are next target).exact rank).1 writes_rank);
                  on = marks-say (λ b. Continues part.problem part.bound left next b) need action
                      (both_ways more_is (does.more has))
                      (both_ways (both_ways unseen_is (does.unseen has)) (continues-unseen part.problem part.bound left next)) sees;
                  over = both_ways ending_is (does.ends has);
                  later = later;
                })
          ],
        )

    -- so a path of the transducer is one over the places
    pub written-can : (left : List Item) (position : ℕ) → drop position items ≡ left → position ≤ length items → (at : Standpoint) (state : ℕ)
        → state ≤ length part.problem.transducer.labels → IsAt (course_in courses at.seen) at.stands (start_of part grid + position) state
        → (rank : ℕ) (rest : List ℕ) → WritesRanks part.problem part.bound left state at.seen (rank ∷ rest) → CanWrite courses ranks need at (rank ∷ rest)
    written-can [] position cut within at state state_in is_at rank rest behind =
        absurd (none-writes part.problem is.whole part.bound state at.seen rank rest behind)
    written-can (t ∷ left) position cut within at state state_in is_at rank [] behind =
        let (here, cut_more, inside) = cut-first position t left cut within in
        let (next, target, either) = first-step t left position here cut_more at state state_in is_at rank [] behind in
        elim either [
          | inl steps ↦ written-can left (position + 1) cut_more (omega (arith, inside)) at next target.1 steps.is_at rank [] steps.later
          | inr visits ↦
              let visit : Visit = visits.visit in
              let aim : Aim = aim_at at need in
              let sees : Bool = sees_with at.seen need rank in
              let (sees_it, over) = writes-ends part.problem is.whole part.bound left next sees visits.later in (
                visit,
                visits.is_visit,
                inl (
                  refl,
                  and_from (writes ranks rank visit) (stops aim rank visit.action) visits.writes_it
                      (and_from sees visit.action.ends sees_it (visits.over.1 over)),
                ),
              )
        ]
    written-can (t ∷ left) position cut within at state state_in is_at rank (other ∷ rest) behind =
        let (here, cut_more, inside) = cut-first position t left cut within in
        let (next, target, either) = first-step t left position here cut_more at state state_in is_at rank (other ∷ rest) behind in
        elim either [
          | inl steps ↦ written-can left (position + 1) cut_more (omega (arith, inside)) at next target.1 steps.is_at rank (other ∷ rest) steps.later
          | inr visits ↦
              let visit : Visit = visits.visit in
              let aim : Aim = aim_at at need in
              let sees : Bool = sees_with at.seen need rank in
              let point : Standpoint = step_to at need rank visit in
              let stands : StandsAt point.stands (start_of part grid + (position + 1)) next =
              (stand_at true visit, Contains-first (stand_at true visit) [], visits.place_is, visits.state_is) in (
                visit,
                visits.is_visit,
                inr (
                  and_from (writes ranks rank visit) (goes_on aim rank visit.action) visits.writes_it
                      (visits.on.1 (writes-continues part.problem is.whole part.bound left next sees other rest visits.later)),
                  written-can left (position + 1) cut_more (omega (arith, inside)) point next target.1 (inr stands) other rest visits.later,
                ),
              )
        ]
