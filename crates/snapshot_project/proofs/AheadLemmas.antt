-- What follows longer prefixes, from what was counted behind the visits of the prefix.
use Rattle.std.proofs.Common.{◌≡◌, ◌↔◌, ℕ, ◌+◌, ◌≤◌, ◌<◌, inl, inr, Bool, true, false, ◌||◌, IsTrue, Option, Some, None, List, [], ◌∷◌, ◌++◌, length, refl, sym, ap, ◌∙◌, subst, arith}
use Rattle.std.specs.List.{AllPairs, AllZip, Contains, filter, slice_index}
use Rattle.std.proofs.lemmas.Bool.{cases_eq, ne_eqb}
use Rattle.std.proofs.lemmas.Option.{slice_get_within}
use Rattle.mine_model.proofs.ListLemmas.{Contains-filter, filter-Contains}
use Rattle.sequence_grids.specs.Grids.{GridList, items_at}
use Rattle.sequence_grids.specs.Successors.{AreSuccessors}
use Rattle.walk_memo.specs.declared.action.Action.{Action}
use Rattle.walk_memo.specs.Moves.{MoveSets}
use Rattle.walk_places.specs.declared.places.Record.{Record}
use Rattle.place_walk.specs.declared.stand.Stand.{Stand}
use Rattle.place_walk.specs.declared.visit.Visit.{Visit}
use Rattle.place_walk.specs.Courses.{Course}
use Rattle.place_walk.specs.Visits.{IsVisit, AreVisits}
use Rattle.place_walk.proofs.StandLemmas.{visits-each}
use Rattle.stand_sums.specs.declared.aim.Aim.{Aim}
use Rattle.stand_sums.specs.Writings.{Ranks, opens, ends, follows}
use Rattle.stand_sums.specs.Files.{stand_at, stands_in}
use Rattle.mask_sums.specs.Kept.{lacks, lacking}
use Rattle.level_ahead.specs.Behind.{IsBehind, HasBehind, FollowsBehind, goes_further, GoesOnBehind, CanLookBehind}
use Rattle.level_ahead.proofs.NeedLemmas.{opens-further}
use Rattle.level_ahead.proofs.StandLemmas.{visit-alike, mark-alike, behind-stand, stand-behind}
use Rattle.place_records.specs.Records.{start_of, AreRecords}
use Rattle.snapshot_project.specs.Aims.{sees, goes}
use Rattle.snapshot_project.specs.Extensions.{GrowsBehind, GeneratesWithin, IsSupportOf}
use Rattle.snapshot_project.specs.Grouped.{course_for, IsGroupIn, AreAllGrids}
use Rattle.snapshot_project.specs.Live.{OpensNext}
use Rattle.snapshot_project.specs.Snapshots.{IsPart, SnapshotList, AreSnapshots}
use Rattle.snapshot_project.proofs.ExtensionLemmas.{grows-next, generates-next}
use Rattle.snapshot_project.proofs.FoundLemmas.{rows-closed}
use Rattle.snapshot_project.proofs.ListedLemmas.{follows-opens}
use Rattle.snapshot_project.proofs.LongerLemmas.{aim_of, AreVisitsIn, longer_list, longer-are, longer-group}
use Rattle.snapshot_project.proofs.VisitNextLemmas.{AreHeld, HasHeld, readable, opens-visit, grows-visit, generates-visit}

-- ---- what is lacking

-- behind an aim goes on and ends what does so where as much is lacking
module _ (ranks : Ranks) (rank : ℕ) (visit : Visit) where
  opens-by : (seen : Bool) (need : Option ℕ)
      → opens ranks (record { seen = seen; need = need }) rank visit ≡ opens ranks (lacks (lacking (record { seen = seen; need = need }))) rank visit
  opens-by true None = refl
  opens-by true (Some need) = refl
  opens-by false need = refl

  pub opens-lacking : (aim : Aim) → opens ranks aim rank visit ≡ opens ranks (lacks (lacking aim)) rank visit
  opens-lacking aim = opens-by aim.seen aim.need

  ends-by : (seen : Bool) (need : Option ℕ)
      → ends ranks (record { seen = seen; need = need }) rank visit ≡ ends ranks (lacks (lacking (record { seen = seen; need = need }))) rank visit
  ends-by true None = refl
  ends-by true (Some need) = refl
  ends-by false need = refl

  pub ends-lacking : (aim : Aim) → ends ranks aim rank visit ≡ ends ranks (lacks (lacking aim)) rank visit
  ends-lacking aim = ends-by aim.seen aim.need

  pub follows-lacking : (aim : Aim) → follows ranks aim rank visit ≡ follows ranks (lacks (lacking aim)) rank visit
  follows-lacking aim = λ i. opens-lacking aim i || ends-lacking aim i

-- with a rank that is not lacking as much is lacking as before
pub lacking-with : (seen : Bool) (need : Option ℕ) (rank : ℕ) → (lacking (record { seen = seen; need = need }) ≡ Some rank → ⊥)
    → lacking (record { seen = sees seen need rank; need = need }) ≡ lacking (record { seen = seen; need = need })
lacking-with true None rank apart = refl
lacking-with false None rank apart = refl
lacking-with true (Some need) rank apart = refl
lacking-with false (Some need) rank apart = elim (cases_eq need rank) [
  | inl same ↦ absurd (apart (ap Some same))
  | inr other ↦ ap (λ (b : Bool). lacking (record { seen = b; need = Some need })) (ne_eqb need rank other)
]

-- and paths go on with it as before
goes-with : (seen : Bool) (need : Option ℕ) (rank : ℕ) → (lacking (record { seen = seen; need = need }) ≡ Some rank → ⊥) → goes seen need ≡ goes (sees seen need rank) need
goes-with seen None rank apart = refl
goes-with true (Some need) rank apart = refl
goes-with false (Some need) rank apart = elim (cases_eq need rank) [
  | inl same ↦ absurd (apart (ap Some same))
  | inr other ↦ ap (λ (b : Bool). goes b (Some need)) (sym (ne_eqb need rank other))
]

-- ---- where nothing goes on behind the rank

either-second : (one other : Bool) → (IsTrue one → ⊥) → IsTrue (one || other) → IsTrue other
either-second true other never is = absurd (never refl)
either-second false other never is = is

second-either : (one other : Bool) → IsTrue other → IsTrue (one || other)
second-either true other is = refl
second-either false other is = is

module _ (course : Course) (ranks : Ranks) (lack : Option ℕ) (rank other : ℕ) (visits : List Visit) where
  -- what follows there ends
  pub ends-quiet : (GoesOnBehind course ranks lack rank visits → ⊥) → FollowsBehind course ranks lack rank other visits → HasBehind course ranks lack rank (ends ranks (lacks lack) other) visits
  ends-quiet quiet has = record {
    visit = has.visit;
    held = has.held;
    opening = has.opening;
    next = has.next;
    behind = has.behind;
    passes = either-second (opens ranks (lacks lack) other has.next) (ends ranks (lacks lack) other has.next)
        (λ opening. quiet (record {
          visit = has.visit;
          held = has.held;
          opening = has.opening;
          next = has.next;
          behind = has.behind;
          passes = opens-further ranks lack other has.next opening;
        }))
        has.passes;
  }

  pub ends-follow : HasBehind course ranks lack rank (ends ranks (lacks lack) other) visits → FollowsBehind course ranks lack rank other visits
  ends-follow has = record {
    visit = has.visit;
    held = has.held;
    opening = has.opening;
    next = has.next;
    behind = has.behind;
    passes = second-either (opens ranks (lacks lack) other has.next) (ends ranks (lacks lack) other has.next) has.passes;
  }

-- ---- one sequence

module _ (part : GridList) (is : IsPart part) (width : ℕ) (rows : List ℕ) (rows_are : AreSuccessors width part.problem.transducer rows)
    (places : List Record) (early late : List MoveSets) (ranks : Ranks) (CanAsk : ℕ → ℕ → Type 0) (records : AreRecords part places early late ranks CanAsk)
    (prefixes : List ℕ) (list : SnapshotList) (are : AreSnapshots part prefixes list) where
  abbrev pub course : Course
  course = course_for rows places early late (goes list.seen part.bound.need)

  abbrev pub lack : Option ℕ
  lack = lacking (aim_of part list.seen)

  module _ (rank : ℕ) (low : 1 ≤ rank) (high : rank ≤ part.bound.top) (support : ℕ) (is_support : IsSupportOf part (prefixes ++ rank ∷ []) support)
      (grids : List ℕ) (rising : AllPairs (λ low high. low < high) grids) (all_grids : AreAllGrids part list.snapshots grids) (sequences : List (List Visit))
      (all : AllZip (AreVisitsIn part are.prefix list.seen ranks rank) grids sequences) where
    abbrev pub kid_list : SnapshotList
    kid_list = longer_list part is prefixes list are ranks rank grids rising all_grids sequences all support

    pub kid-are : AreSnapshots part (prefixes ++ rank ∷ []) kid_list
    kid-are = longer-are part is prefixes list are ranks rank grids rising all_grids sequences all support low high is_support

    module _ (apart : lack ≡ Some rank → ⊥) (grid : ℕ) (visits : List Visit) (at : AreVisitsIn part are.prefix list.seen ranks rank grid visits) where
      abbrev group : List Stand
      group = stands_in ranks (aim_of part list.seen) rank visits

      -- what is written behind the visits that write the rank and go on
      abbrev Kid : Visit → Type 0
      Kid next = (visit : Visit) × Contains visits visit × IsTrue (opens ranks (lacks lack) rank visit) × IsBehind course visit next

      -- is what is written from the stands behind them
      kid-there : AreHeld course group Kid
      kid-there place kind action = (
        (λ (next, (visit, held, passes, behind), place_is, kind_is, action_is).
            let test : Visit → Bool = opens ranks (aim_of part list.seen) rank in
            let kept : Contains (filter test visits) visit = filter-Contains test visits visit held (opens-lacking ranks rank visit (aim_of part list.seen) ∙ passes) in
            let here : IsVisit course group next.place next.kind next.action = elim (stand-behind (filter test visits) visit kept) [
              | inl there ↦ (visits-each course group next.place next.kind next.action).1 (stand_at true visit, there, behind)
              | inr there ↦
                  (visits-each course group next.place next.kind next.action).1 (
                    stand_at false visit,
                    there,
                    visit-alike course (stand_at true visit ∷ []) (stand_at false visit ∷ []) (mark-alike visit true false) next.place next.kind next.action behind,
                  )
            ] in
            subst (λ (a : Action). IsVisit course group place kind a) action_is
            (subst (λ (k : ℕ). IsVisit course group place k next.action) kind_is (subst (λ (p : ℕ). IsVisit course group p next.kind next.action) place_is here))),
        (λ here.
            let test : Visit → Bool = opens ranks (aim_of part list.seen) rank in
            let (stand, there, alone) = (visits-each course group place kind action).0 here in
            let (visit, kept, mark, same) = behind-stand (filter test visits) stand there in
            let (held, passes) = Contains-filter test visits visit kept in
            let next : Visit = record { place = place; kind = kind; action = action; first = false } in
            let behind : IsBehind course visit next =
            visit-alike course (stand_at mark visit ∷ []) (stand_at true visit ∷ []) (mark-alike visit mark true) place kind action
            (subst (λ (s : Stand). IsVisit course (s ∷ []) place kind action) same alone) in
            (next, (visit, held, sym (opens-lacking ranks rank visit (aim_of part list.seen)) ∙ passes, behind), refl, refl, refl)),
      )

      -- also for paths that have seen what is needed with the rank
      kid-held : AreHeld (course_for rows places early late (goes kid_list.seen part.bound.need)) group Kid
      kid-held = subst (λ (on : Bool). AreHeld (course_for rows places early late on) group Kid) (goes-with list.seen part.bound.need rank apart) kid-there

      kid-opens-as : (other : ℕ) (next : Visit) → opens ranks (aim_of part kid_list.seen) other next ≡ opens ranks (lacks lack) other next
      kid-opens-as other next =
          opens-lacking ranks other next (aim_of part kid_list.seen) ∙ ap (λ (o : Option ℕ). opens ranks (lacks o) other next) (lacking-with list.seen part.bound.need rank apart)

      kid-ends-as : (other : ℕ) (next : Visit) → ends ranks (aim_of part kid_list.seen) other next ≡ ends ranks (lacks lack) other next
      kid-ends-as other next =
          ends-lacking ranks other next (aim_of part kid_list.seen) ∙ ap (λ (o : Option ℕ). ends ranks (lacks o) other next) (lacking-with list.seen part.bound.need rank apart)

      kid-follows-as : (other : ℕ) (next : Visit) → follows ranks (aim_of part kid_list.seen) other next ≡ follows ranks (lacks lack) other next
      kid-follows-as other next =
          follows-lacking ranks other next (aim_of part kid_list.seen) ∙ ap (λ (o : Option ℕ). follows ranks (lacks o) other next) (lacking-with list.seen part.bound.need rank apart)

      kid-group : (visit : Visit) → Contains visits visit → IsTrue (opens ranks (lacks lack) rank visit) → IsGroupIn part kid-are.prefix kid_list.seen grid group
      unfolding kid-are
      kid-group visit held passes =
          longer-group part is prefixes list are ranks rank grids rising all_grids sequences all support low high is_support grid visits at visit held
          (opens-lacking ranks rank visit (aim_of part list.seen) ∙ passes)

      has-kid : (test : Visit → Bool) → HasBehind course ranks lack rank test visits → HasHeld test Kid
      has-kid test has = (has.next, (has.visit, has.held, has.opening, has.behind), has.passes)

      kid-has : (test : Visit → Bool) → HasHeld test Kid → HasBehind course ranks lack rank test visits
      kid-has test (next, (visit, held, passes, behind), also) =
          record { visit = visit; held = held; opening = passes; next = next; behind = behind; passes = also }

      -- a visit that opens, where something longer grows
      kid-opens : (other : ℕ) → GrowsBehind part ((prefixes ++ rank ∷ []) ++ other ∷ []) (items_at part grid)
          → (visit : Visit) × Contains visits visit × IsTrue (opens ranks (lacks lack) rank visit)
      kid-opens other grows =
          let (position, state, next) = follows-opens part is.whole prefixes list are (items_at part grid) rank other grows in
          let (visit, held, place, state_is, passes) = (at.opening position state).0 next in
          (visit, held, sym (opens-lacking ranks rank visit (aim_of part list.seen)) ∙ passes)

      module _ (other : ℕ) where
        -- the other rank follows the longer prefix there just where it follows behind a visit
        pub kid-grows : GrowsBehind part ((prefixes ++ rank ∷ []) ++ other ∷ []) (items_at part grid) ↔ FollowsBehind course ranks lack rank other visits
        kid-grows = (
          (λ grows.
              let (visit, held, passes) = kid-opens other grows in
              let (next, there, also) =
              (grows-visit part is width rows rows_are places early late ranks CanAsk records (prefixes ++ rank ∷ []) kid_list kid-are grid group (kid-group visit held passes) Kid kid-held other).0 grows in
              kid-has (follows ranks (lacks lack) other) (next, there, sym (kid-follows-as other next) ∙ also)),
          (λ has.
              let (next, there, also) = has-kid (follows ranks (lacks lack) other) has in
              (grows-visit part is width rows rows_are places early late ranks CanAsk records (prefixes ++ rank ∷ []) kid_list kid-are grid group (kid-group has.visit has.held has.opening) Kid kid-held other).1
              (next, there, kid-follows-as other next ∙ also)),
        )

        -- and ends there just where it ends behind a visit
        pub kid-generates : GeneratesWithin part ((prefixes ++ rank ∷ []) ++ other ∷ []) (items_at part grid) ↔ HasBehind course ranks lack rank (ends ranks (lacks lack) other) visits
        kid-generates = (
          (λ generates.
              let (position, state, next) =
              (generates-next part is.whole kid-are.prefix (prefixes ++ rank ∷ []) kid-are.ranked kid-are.top (items_at part grid) other).0 generates in
              let grows = (grows-next part is.whole kid-are.prefix (prefixes ++ rank ∷ []) kid-are.ranked kid-are.top (items_at part grid) other).1 (position, state, next.0) in
              let (visit, held, passes) = kid-opens other grows in
              let (one, there, also) =
              (generates-visit part is width rows rows_are places early late ranks CanAsk records (prefixes ++ rank ∷ []) kid_list kid-are grid group (kid-group visit held passes) Kid kid-held other).0 generates in
              kid-has (ends ranks (lacks lack) other) (one, there, sym (kid-ends-as other one) ∙ also)),
          (λ has.
              let (one, there, also) = has-kid (ends ranks (lacks lack) other) has in
              (generates-visit part is width rows rows_are places early late ranks CanAsk records (prefixes ++ rank ∷ []) kid_list kid-are grid group (kid-group has.visit has.held has.opening) Kid kid-held other).1
              (one, there, kid-ends-as other one ∙ also)),
        )

        -- where more is written behind the longer prefix with the other rank, something goes on behind a visit
        pub kid-goes : (position state : ℕ) → OpensNext part.problem part.bound (items_at part grid) kid-are.prefix kid_list.seen other position state
            → GoesOnBehind course ranks lack rank visits
        kid-goes position state opening =
            let (before, position_is, writes_it, completes) = opening in
            let grows = (grows-next part is.whole kid-are.prefix (prefixes ++ rank ∷ []) kid-are.ranked kid-are.top (items_at part grid) other).1 (before, state, writes_it) in
            let (visit, held, passes) = kid-opens other grows in
            let (next, there, place, state_is, also) =
            (opens-visit part is width rows rows_are places early late ranks CanAsk records kid-are.prefix kid_list.seen grid group (kid-group visit held passes) Kid kid-held other position state).0 opening in
            kid-has (goes_further ranks lack) (next, there, opens-further ranks lack other next (sym (kid-opens-as other next) ∙ also))

      -- ---- what a walk behind a visit may ask

      kid-asked : (visit : Visit) → Contains visits visit → IsTrue (opens ranks (lacks lack) rank visit) → (next : Visit) → IsBehind course visit next → CanAsk next.kind next.action.state
      kid-asked visit held passes next behind =
          (readable part is width rows rows_are places early late ranks CanAsk records kid-are.prefix kid_list.seen grid group (kid-group visit held passes) Kid kid-held next
          (visit, held, passes, behind)).asked

      pub kid-looks : (stands : List Stand) → AreVisits course stands visits → (visit : Visit) → Contains visits visit → IsTrue (opens ranks (lacks lack) rank visit)
          → CanLookBehind course CanAsk visit
      kid-looks stands exact visit held passes =
          let (position, within, place) = at.within visit held in
          let known : grid < length part.sequences = slice_get_within part.sequences grid (slice_index part.sequences grid) at.at in
          let (entry, before, behind, wall, names, dead, dead_behind) = records.wall grid known in
          let room : start_of part grid + length (items_at part grid) < length places = slice_get_within places (start_of part grid + length (items_at part grid)) entry wall in
          let is_visit : IsVisit course stands visit.place visit.kind visit.action = (exact.exact visit.place visit.kind visit.action).0 (visit, held, refl, refl, refl) in
          record {
            place = omega arith;
            state = rows-closed width part.problem is.whole rows rows_are is_visit.from visit.action.state is_visit.leads;
            asked = kid-asked visit held passes;
          }
