-- What the visits of one sequence say of a prefix: what may follow it there, and where.
use Rattle.std.proofs.Common.{◌≡◌, ◌↔◌, ℕ, ◌+◌, ◌≤◌, ◌<◌, inl, Bool, IsTrue, Some, List, [], ◌∷◌, ◌++◌, length, get_or, drop, refl, sym, ap, ◌∙◌, subst, arith}
use Rattle.std.specs.List.{All, Contains, slice_get}
use Rattle.std.proofs.lemmas.List.Elements.{All-append, All-nil, All-same, Contains-get_or}
use Rattle.std.proofs.lemmas.Option.{slice_get_within}
use Rattle.state_bits.specs.Members.{Has}
use Rattle.mine_model.specs.declared.item.Item.{Item}
use Rattle.mine_model.proofs.ElementLemmas.{get-some}
use Rattle.fst_compile.specs.Transducer.{Leads}
use Rattle.sequence_grids.specs.Grids.{GridList, HoldsNeeded, Continues, items_at}
use Rattle.sequence_grids.specs.Kinds.{IsTarget}
use Rattle.sequence_grids.specs.Successors.{AreSuccessors}
use Rattle.sequence_grids.proofs.GridLemmas.{both_ways}
use Rattle.sequence_grids.proofs.PathLemmas.{target-of}
use Rattle.walk_memo.specs.declared.action.Action.{Action}
use Rattle.walk_memo.specs.Moves.{MoveSets}
use Rattle.walk_memo.specs.Steps.{IsMarked}
use Rattle.walk_places.specs.declared.places.Record.{Record}
use Rattle.place_walk.specs.declared.stand.Stand.{Stand}
use Rattle.place_walk.specs.declared.visit.Visit.{Visit}
use Rattle.place_walk.specs.Courses.{Course, Holds}
use Rattle.place_walk.specs.Stands.{IsAt}
use Rattle.place_walk.specs.Visits.{IsVisit, AreVisitsOf}
use Rattle.place_walk.proofs.StandLemmas.{one-entry, one-move}
use Rattle.stand_sums.specs.declared.aim.Aim.{Aim}
use Rattle.stand_sums.specs.Writings.{Ranks, writes, opens, ends, follows, IsReadable}
use Rattle.place_records.specs.Records.{start_of, AreRanksAt, IsMoveAt, AreRecords}
use Rattle.snapshot_project.specs.Aims.{sees, goes}
use Rattle.snapshot_project.specs.Snapshots.{IsPart, SnapshotList, AreSnapshots}
use Rattle.snapshot_project.specs.Extensions.{GrowsBehind, GeneratesWithin}
use Rattle.snapshot_project.specs.Live.{IsLive, WritesNext, EndsNext, OpensNext}
use Rattle.snapshot_project.specs.Grouped.{course_for, IsGroupIn, AreGroupsIn}
use Rattle.snapshot_project.proofs.LiveLemmas.{live-state}
use Rattle.snapshot_project.proofs.OpenLemmas.{open-writes}
use Rattle.snapshot_project.proofs.ExtensionLemmas.{grows-next, generates-next}
use Rattle.snapshot_project.proofs.GroupLemmas.{group-inside}
use Rattle.snapshot_project.proofs.VisitPlaceLemmas.{IsMet, met-at, visit-inside, is-at-live, live-is-at}
use Rattle.snapshot_project.proofs.VisitLemmas.{IsRead, has-decided, read-readable, read-ranked, read-follows, read-ends, read-opens}

-- these are exactly what paths from the stands write next
abbrev pub AreHeld : Course → List Stand → (Visit → Type 0) → Type 0
AreHeld course stands Held =
    (place kind : ℕ) (action : Action)
    → ((visit : Visit) × Held visit × (visit.place ≡ place) × (visit.kind ≡ kind) × (visit.action ≡ action)) ↔ IsVisit course stands place kind action

-- one of these passes
abbrev pub HasHeld : (Visit → Bool) → (Visit → Type 0) → Type 0
HasHeld test Held = (visit : Visit) × Held visit × IsTrue (test visit)

module _ (part : GridList) (is : IsPart part) (width : ℕ) (rows : List ℕ) (rows_are : AreSuccessors width part.problem.transducer rows)
    (places : List Record) (early late : List MoveSets) (ranks : Ranks) (CanAsk : ℕ → ℕ → Type 0)
    (records : AreRecords part places early late ranks CanAsk) where
  module _ (prefix : List Item) (seen : Bool) (grid : ℕ) (group : List Stand) (group_in : IsGroupIn part prefix seen grid group) (Held : Visit → Type 0)
      (exact : AreHeld (course_for rows places early late (goes seen part.bound.need)) group Held) where
    known : grid < length part.sequences
    known = group-inside part grid group_in.0 group group_in.1

    abbrev IsHere : Visit → Type 0
    IsHere visit = IsVisit (course_for rows places early late (goes seen part.bound.need)) group visit.place visit.kind visit.action

    made : (visit : Visit) → Held visit → IsHere visit
    made visit held = (exact visit.place visit.kind visit.action).0 (visit, held, refl, refl, refl)

    inside : (visit : Visit) (visited : IsHere visit) → (position : ℕ) × (position < length (items_at part grid)) × (visited.before ≡ start_of part grid + position)
    inside visit visited =
        visit-inside part places early late ranks CanAsk records rows grid known width rows_are is.whole prefix seen
        group_in.0 group group_in.1.are group_in.2 visit.place visit.kind visit.action visited

    -- each visit is behind an item of the sequence
    pub visit-within : (visit : Visit) → Held visit
        → (position : ℕ) × (position < length (items_at part grid)) × (visit.place ≡ start_of part grid + (position + 1))
    visit-within visit held =
        let visited = made visit held in
        let (position, within, before_is) = inside visit visited in
        let before : visited.before ≡ start_of part grid + position = before_is in
        let behind : visit.place ≡ visited.before + 1 = visited.behind in
        (position, within, omega arith)

    -- what is met at its place says what it says
    read-met : (visit : Visit) (visited : IsHere visit) (at : ℕ) (t : Item) → slice_get (items_at part grid) at ≡ Some t → visited.before ≡ start_of part grid + at
        → IsMet part places early late ranks CanAsk records rows grid known (goes seen part.bound.need) at t
        → IsRead part prefix grid ranks CanAsk at visit
    read-met visit visited at t here there met =
        let on = goes seen part.bound.need in
        let course = course_for rows places early late on in
        let state = visit.action.state in
        let below : at < length (items_at part grid) = slice_get_within (items_at part grid) at t here in
        let holds : Holds course (start_of part grid + at) visited.entry visited.move = subst (λ (p : ℕ). Holds course p visited.entry visited.move) there visited.holds in
        let entry_is : visited.entry ≡ met.entry = one-entry course (start_of part grid + at) met.entry visited.entry met.move visited.move met.holds holds in
        let move_is : visited.move ≡ met.move = one-move course (start_of part grid + at) met.entry visited.entry met.move visited.move met.holds holds in
        let kind_is : visit.kind ≡ met.entry.kind = visited.kind_is ∙ ap (λ (e : Record). e.kind) entry_is in
        let live : IsLive part.problem part.bound (items_at part grid) prefix at visited.from =
        is-at-live part places early late ranks CanAsk records rows grid known width rows_are is.whole prefix seen
        group_in.0 group group_in.1.are group_in.2 at visited.from
        (omega arith) (subst (λ (p : ℕ). IsAt course group p visited.from) there visited.is_at) in
        let leads : Leads part.problem.transducer visited.from state =
        (rows_are.leads visited.from state (live-state part.problem is.whole part.bound (items_at part grid) prefix at visited.from live)).0 visited.leads in
        let target : IsTarget part.problem state = target-of part.problem is.whole visited.from state leads in
        let does : IsMoveAt part.problem part.bound on t (drop (at + 1) (items_at part grid)) met.move state = met.does state target in
        let writes_it : Has met.move.writes state = subst (λ (m : MoveSets). Has m.writes state) move_is visited.writes in
        let marks : IsMarked met.move visit.action = subst (λ (m : MoveSets). IsMarked m visit.action) move_is visited.marks in
        record {
          t = t;
          here = here;
          from = visited.from;
          live = live;
          leads = leads;
          asked = subst (λ (kind : ℕ). CanAsk kind state) (sym kind_is) (met.asked state target);
          ranks_are = subst (λ (kind : ℕ). AreRanksAt part.problem part.bound t ranks kind state) (sym kind_is) (met.ranks_are state target);
          completes = (does.writes.0 writes_it).1;
          more = both_ways marks.more (does.more writes_it);
          unseen = both_ways marks.unseen (does.unseen writes_it);
          ends = both_ways marks.ends (does.ends writes_it);
        }

    -- and says what its item does
    pub visit-read : (visit : Visit) → Held visit → (at : ℕ) → visit.place ≡ start_of part grid + (at + 1) → IsRead part prefix grid ranks CanAsk at visit
    visit-read visit held at place =
        let visited = made visit held in
        let (position, within, before_is) = inside visit visited in
        let before : visited.before ≡ start_of part grid + position = before_is in
        let behind : visit.place ≡ visited.before + 1 = visited.behind in
        let (t, here) = get-some (items_at part grid) at (omega arith) in
        read-met visit visited at t here (omega arith)
        (met-at part places early late ranks CanAsk records rows grid known (goes seen part.bound.need) at t here)

    seen-is : IsTrue seen ↔ HoldsNeeded part.problem.ranking part.bound.need prefix
    seen-is = group_in.2.seen_is

    -- the ranks of a visit may be asked for
    pub readable : (visit : Visit) → Held visit → IsReadable ranks CanAsk (length part.problem.ranking.order + 1) visit
    readable visit held =
        let (at, within, place) = visit-within visit held in
        read-readable part prefix grid ranks CanAsk at visit (visit-read visit held at place)

    module _ (rank : ℕ) where
      abbrev aim : Aim
      aim = record { seen = seen; need = part.bound.need }

      -- they are ranks that the bound allows
      pub ranked : (visit : Visit) → Held visit → IsTrue (writes ranks rank visit) → (1 ≤ rank) × (rank ≤ part.bound.top)
      ranked visit held writes_it =
          let (at, within, place) = visit-within visit held in
          read-ranked part prefix grid ranks CanAsk at visit (visit-read visit held at place) rank writes_it

      -- a visit that follows is behind a place where the rank is written
      pub follows-written : (visit : Visit) → Held visit → (at : ℕ) → visit.place ≡ start_of part grid + (at + 1)
          → IsTrue (follows ranks aim rank visit) ↔ WritesNext part.problem part.bound (items_at part grid) prefix rank at visit.action.state
      follows-written visit held at place = read-follows part prefix grid ranks CanAsk at visit (visit-read visit held at place) seen seen-is rank

      -- and one that ends behind one where it is written and can end
      pub ends-written : (visit : Visit) → Held visit → (at : ℕ) → visit.place ≡ start_of part grid + (at + 1)
          → IsTrue (ends ranks aim rank visit) ↔ EndsNext part.problem part.bound (items_at part grid) prefix rank at visit.action.state
      ends-written visit held at place = read-ends part prefix grid ranks CanAsk at visit (visit-read visit held at place) seen seen-is rank

      -- wherever it is written there is a visit
      pub written-visit : (at state : ℕ) → WritesNext part.problem part.bound (items_at part grid) prefix rank at state
          → (visit : Visit) × Held visit × (visit.place ≡ start_of part grid + (at + 1)) × (visit.action.state ≡ state)
      written-visit at state (t, from, here, live, leads, writes_it, completes) =
          let on = goes seen part.bound.need in
          let course = course_for rows places early late on in
          let met = met-at part places early late ranks CanAsk records rows grid known on at t here in
          let (owed, says, (output, path, allowed, all)) = completes in
          let is_at : IsAt course group (start_of part grid + at) from =
          live-is-at part places early late ranks CanAsk records rows grid known width rows_are is.whole prefix seen group_in.0 group group_in.1.are group_in.2 at from live
          (open-writes part.problem is.whole part.bound (items_at part grid) prefix rank at from state t here leads writes_it completes) in
          let does = met.does state (target-of part.problem is.whole from state leads) in
          let (more, more_is) = has-decided met.move.more state in
          let (unseen, unseen_is) = has-decided met.move.unseen state in
          let (ending, ends_is) = has-decided met.move.ends state in
          let action : Action = record { state = state; more = more; unseen = unseen; ends = ending } in
          let next : start_of part grid + (at + 1) ≡ (start_of part grid + at) + 1 = omega arith in
          let (visit, held, place_is, kind_is, action_is) = (exact (start_of part grid + (at + 1)) met.entry.kind action).1 (record {
            before = start_of part grid + at;
            behind = next;
            entry = met.entry;
            move = met.move;
            holds = met.holds;
            kind_is = refl;
            from = from;
            is_at = is_at;
            leads = (rows_are.leads from state (live-state part.problem is.whole part.bound (items_at part grid) prefix at from live)).1 leads;
            writes = does.writes.1 ((rank, writes_it), (output, path, allowed, inl refl));
            marks = record { more = more_is; unseen = unseen_is; ends = ends_is };
          }) in
          (visit, held, place_is, ap (λ (a : Action). a.state) action_is)

      -- the rank can follow the prefix with what is written on from there just where a visit opens it
      pub opens-visit : (position state : ℕ) → OpensNext part.problem part.bound (items_at part grid) prefix seen rank position state
          ↔ ((visit : Visit) × Held visit × (visit.place ≡ start_of part grid + position) × (visit.action.state ≡ state) × IsTrue (opens ranks aim rank visit))
      opens-visit position state = (
        (λ (before, position_is, next, completes).
            let (visit, held, place, state_is) = written-visit before state next in
            let opening = read-opens part prefix grid ranks CanAsk before visit (visit-read visit held before place) seen seen-is rank in
            let on : Continues part.problem part.bound (drop (before + 1) (items_at part grid)) state (goes (sees seen part.bound.need rank) part.bound.need) =
            subst (λ (p : ℕ). Continues part.problem part.bound (drop p (items_at part grid)) state (goes (sees seen part.bound.need rank) part.bound.need)) position_is completes in (
              visit,
              held,
              place ∙ ap (λ (p : ℕ). start_of part grid + p) (sym position_is),
              state_is,
              opening.1 (
                subst (WritesNext part.problem part.bound (items_at part grid) prefix rank before) (sym state_is) next,
                subst (λ (q : ℕ). Continues part.problem part.bound (drop (before + 1) (items_at part grid)) q (goes (sees seen part.bound.need rank) part.bound.need)) (sym state_is) on,
              ),
            )),
        (λ (visit, held, place, state_is, opens_it).
            let (before, within, behind) = visit-within visit held in
            let place_is : visit.place ≡ start_of part grid + (before + 1) = behind in
            let here : visit.place ≡ start_of part grid + position = place in
            let position_is : position ≡ before + 1 = omega arith in
            let opening = read-opens part prefix grid ranks CanAsk before visit (visit-read visit held before behind) seen seen-is rank in
            let (next, completes) = opening.0 opens_it in
            let on : Continues part.problem part.bound (drop position (items_at part grid)) visit.action.state (goes (sees seen part.bound.need rank) part.bound.need) =
            subst (λ (p : ℕ). Continues part.problem part.bound (drop p (items_at part grid)) visit.action.state (goes (sees seen part.bound.need rank) part.bound.need)) (sym position_is) completes in (
              before,
              position_is,
              subst (WritesNext part.problem part.bound (items_at part grid) prefix rank before) state_is next,
              subst (λ (q : ℕ). Continues part.problem part.bound (drop position (items_at part grid)) q (goes (sees seen part.bound.need rank) part.bound.need)) state_is on,
            )),
      )

  -- the visits of a walk over some of the groups may be asked for their ranks
  pub all-readable : (prefix : List Item) (seen : Bool) (grids : List ℕ) (done rest : List (List Stand)) → AreGroupsIn part prefix seen grids (done ++ rest)
      → (visits : List Visit) → AreVisitsOf (course_for rows places early late (goes seen part.bound.need)) done visits
      → All (IsReadable ranks CanAsk (length part.problem.ranking.order + 1)) visits
  all-readable prefix seen grids [] rest groups_in visits none =
      All-same (IsReadable ranks CanAsk (length part.problem.ranking.order + 1)) visits [] none (All-nil (IsReadable ranks CanAsk (length part.problem.ranking.order + 1)))
  all-readable prefix seen [] (group ∷ done) rest groups_in visits are = absurd groups_in
  all-readable prefix seen (grid ∷ grids) (group ∷ done) rest (group_in, others) visits (here, there, joined, exact, behind) =
      All-same (IsReadable ranks CanAsk (length part.problem.ranking.order + 1)) visits (here ++ there) joined
      (All-append (IsReadable ranks CanAsk (length part.problem.ranking.order + 1)) here there
      (λ k d below. readable prefix seen grid group group_in (Contains here) exact.exact (get_or here k d) (Contains-get_or here k d below))
      (all-readable prefix seen grids done rest others there behind))

  module _ (prefixes : List ℕ) (list : SnapshotList) (are : AreSnapshots part prefixes list) (grid : ℕ) (group : List Stand)
      (group_in : IsGroupIn part are.prefix list.seen grid group) (Held : Visit → Type 0)
      (exact : AreHeld (course_for rows places early late (goes list.seen part.bound.need)) group Held) (rank : ℕ) where
    abbrev aim_of : Aim
    aim_of = record { seen = list.seen; need = part.bound.need }

    -- the sequence has the prefix with the rank just where a visit follows
    pub grows-visit : GrowsBehind part (prefixes ++ rank ∷ []) (items_at part grid) ↔ HasHeld (follows ranks aim_of rank) Held
    grows-visit =
        let law = grows-next part is.whole are.prefix prefixes are.ranked are.top (items_at part grid) rank in (
          (λ grows.
              let (at, state, next) = law.0 grows in
              let (visit, held, place, state_is) = written-visit are.prefix list.seen grid group group_in Held exact rank at state next in (
                visit,
                held,
                (follows-written are.prefix list.seen grid group group_in Held exact rank visit held at place).1
                    (subst (WritesNext part.problem part.bound (items_at part grid) are.prefix rank at) (sym state_is) next),
              )),
          (λ (visit, held, follows_it).
              let (at, within, place) = visit-within are.prefix list.seen grid group group_in Held exact visit held in
              law.1 (at, visit.action.state, (follows-written are.prefix list.seen grid group group_in Held exact rank visit held at place).0 follows_it)),
        )

    -- and the prefix with the rank is a pattern of it just where one ends
    pub generates-visit : GeneratesWithin part (prefixes ++ rank ∷ []) (items_at part grid) ↔ HasHeld (ends ranks aim_of rank) Held
    generates-visit =
        let law = generates-next part is.whole are.prefix prefixes are.ranked are.top (items_at part grid) rank in (
          (λ generates.
              let (at, state, next) = law.0 generates in
              let (visit, held, place, state_is) = written-visit are.prefix list.seen grid group group_in Held exact rank at state next.0 in (
                visit,
                held,
                (ends-written are.prefix list.seen grid group group_in Held exact rank visit held at place).1
                    (subst (EndsNext part.problem part.bound (items_at part grid) are.prefix rank at) (sym state_is) next),
              )),
          (λ (visit, held, ends_it).
              let (at, within, place) = visit-within are.prefix list.seen grid group group_in Held exact visit held in
              law.1 (at, visit.action.state, (ends-written are.prefix list.seen grid group group_in Held exact rank visit held at place).0 ends_it)),
        )
