-- What paths meet at the places of a part.
use Rattle.std.proofs.Common.{◌≡◌, ◌↔◌, ℕ, zero, suc, ◌+◌, ◌-◌, ◌≤◌, ◌<◌, inl, inr, Bool, true, false, IsTrue, Some, List, [], ◌∷◌, length, drop, refl, sym, ap, ◌∙◌, subst, arith}
use Rattle.std.specs.List.{All, slice_get, slice_index, slice_index_or}
use Rattle.std.proofs.lemmas.Bool.{cases_lt}
use Rattle.std.proofs.lemmas.List.{get_or_past}
use Rattle.std.proofs.lemmas.List.Elements.{Contains-get_or}
use Rattle.std.proofs.lemmas.Option.{slice_get_within, same_Some}
use Rattle.state_bits.specs.Members.{Has}
use Rattle.state_bits.proofs.NeighbourLemmas.{Has-none}
use Rattle.mine_model.specs.declared.item.Item.{Item}
use Rattle.fst_compile.specs.Transducer.{Leads}
use Rattle.sequence_grids.specs.Grids.{GridList, Completes, Continues, Ends, items_at}
use Rattle.sequence_grids.specs.Kinds.{IsTarget}
use Rattle.sequence_grids.specs.Successors.{AreSuccessors}
use Rattle.sequence_grids.proofs.GridLemmas.{item_there, both_ways}
use Rattle.sequence_grids.proofs.PathLemmas.{target-of}
use Rattle.walk_memo.specs.declared.action.Action.{Action}
use Rattle.walk_memo.specs.Moves.{MoveSets}
use Rattle.walk_places.specs.declared.places.Record.{Record}
use Rattle.place_walk.specs.declared.stand.Stand.{Stand}
use Rattle.place_walk.specs.declared.visit.Visit.{Visit}
use Rattle.place_walk.specs.Courses.{Holds}
use Rattle.place_walk.specs.Visits.{IsVisit}
use Rattle.place_walk.proofs.StandLemmas.{one-move}
use Rattle.stand_sums.specs.Writings.{IsReadable}
use Rattle.candidate_graph.specs.Courses.{AreStandsOn, IsGround}
use Rattle.place_records.specs.Records.{start_of, goes_with, AreRanksAt, IsDead, AreRecords}
use Rattle.snapshot_project.specs.Grouped.{course_for}
use Rattle.snapshot_project.specs.Snapshots.{IsPart}
use Rattle.snapshot_project.proofs.StartLemmas.{start-next, start-whole}
use Rattle.snapshot_project.proofs.StandLemmas.{moves-known}
use Rattle.snapshot_project.proofs.FoundLemmas.{rows-closed}
use Rattle.snapshot_project.proofs.VisitPlaceLemmas.{met-at, dead-behind}

-- ---- each place is one of a sequence

-- the place is at a position of the sequence of a grid, or behind it
pub record IsIn (part : GridList) (place : ℕ) : Type 0 where
  pub grid : ℕ
  pub position : ℕ
  pub known : grid < length part.sequences
  pub within : position ≤ length (items_at part grid)
  pub place_is : place ≡ start_of part grid + position

pub place-in : (part : GridList) (place count : ℕ) → count ≤ length part.sequences → place < start_of part count → IsIn part place
place-in part place zero few before = absurd (omega (arith, before))
place-in part place (suc count) few before = elim (cases_lt place (start_of part count)) [
  | inl earlier ↦ place-in part place count (omega (arith, few)) earlier
  | inr behind ↦
      let known : count < length part.sequences = omega (arith, few) in
      let next : start_of part (count + 1) ≡ start_of part count + length (items_at part count) + 1 = start-next part count known in
      let same : suc count ≡ count + 1 = omega arith in
      let low : place < start_of part (count + 1) = subst (λ (k : ℕ). place < start_of part k) same before in
      record {
        grid = count;
        position = place - start_of part count;
        known = known;
        within = omega (arith, low, next, behind);
        place_is = omega (arith, behind);
      }
]

-- one stand is marked alone
pub marked-one : (stand : Stand) → stand.first ≡ true → (k : ℕ) (other : Stand) → slice_get (stand ∷ []) k ≡ Some other → IsTrue other.first ↔ (k ≡ 0)
marked-one stand first zero other at = ((λ yes'. refl), (λ zero'. ap (λ (s : Stand). s.first) (sym (same_Some stand other at)) ∙ first))
marked-one stand first (suc k) other at = absurd (cc)

module _ (part : GridList) (is : IsPart part) (width : ℕ) (rows : List ℕ) (rows_are : AreSuccessors width part.problem.transducer rows)
    (places : List Record) (early late : List MoveSets) (ranks : ℕ → ℕ → List ℕ) (CanAsk : ℕ → ℕ → Type 0)
    (records : AreRecords part places early late ranks CanAsk) where
  -- the place before a sequence is the one behind another, where nothing is done
  pub dead-before : (on : Bool) (grid before : ℕ) → grid ≤ length part.sequences → start_of part grid ≡ suc before → (entry : Record) (move : MoveSets)
      → Holds (course_for rows places early late on) before entry move → IsDead move
  dead-before on zero before few start entry move holds = absurd (omega (arith, start))
  dead-before on (suc grid) before few start entry move holds =
      let known : grid < length part.sequences = omega (arith, few) in
      let next : start_of part (grid + 1) ≡ start_of part grid + length (items_at part grid) + 1 = start-next part grid known in
      let same : suc grid ≡ grid + 1 = omega arith in
      let is_start : start_of part (grid + 1) ≡ suc before = subst (λ (k : ℕ). start_of part k ≡ suc before) same start in
      let last : before ≡ start_of part grid + length (items_at part grid) = omega (arith, next, is_start) in
      let (other, still, there, dead) = dead-behind part places early late ranks CanAsk records rows grid known on in
      let move_is : move ≡ still =
      one-move (course_for rows places early late on) (start_of part grid + length (items_at part grid)) other entry still move there
      (subst (λ (p : ℕ). Holds (course_for rows places early late on) p entry move) last holds) in
      subst IsDead (sym move_is) dead

  -- edges between states
  pub row-leads : (from state : ℕ) → Has (slice_index rows from) state → Leads part.problem.transducer from state
  row-leads from state has = elim (cases_lt from (length rows)) [
    | inl inside ↦
        let all : length rows ≡ length part.problem.transducer.labels + 1 = rows_are.all in
        (rows_are.leads from state (omega (arith, all, inside))).0 has
    | inr past ↦ absurd (Has-none state (subst (λ (set : ℕ). Has set state) (past-rows from past) has))
  ]
    where
      past-rows : (from : ℕ) → length rows ≤ from → slice_index rows from ≡ 0
      past-rows from past = get_or_past rows from 0 past

  -- ---- what a visit says

  -- it is of the item at a position, and its ranks and marks are right
  pub record IsTaken (on : Bool) (before kind : ℕ) (action : Action) (from : ℕ) : Type 0 where
    pub grid : ℕ
    pub position : ℕ
    pub t : Item
    pub known : grid < length part.sequences
    pub here : slice_get (items_at part grid) position ≡ Some t
    pub before_is : before ≡ start_of part grid + position
    pub leads : Leads part.problem.transducer from action.state
    pub asked : CanAsk kind action.state
    pub ranks_are : AreRanksAt part.problem part.bound t ranks kind action.state
    pub more : IsTrue action.more ↔ Continues part.problem part.bound (drop (position + 1) (items_at part grid)) action.state (goes_with part.bound.need)
    pub unseen : IsTrue action.unseen ↔ Completes part.problem part.bound (drop (position + 1) (items_at part grid)) action.state false
    pub ends : IsTrue action.ends ↔ Ends part.problem (drop (position + 1) (items_at part grid)) action.state

  pub visit-taken : (on : Bool) (stands : List Stand) (place kind : ℕ) (action : Action) → (visit : IsVisit (course_for rows places early late on) stands place kind action)
      → IsTaken on visit.before kind action visit.from
  visit-taken on stands place kind action visit =
      let course = course_for rows places early late on in
      let inside : visit.before < length places = slice_get_within places visit.before visit.entry visit.holds.entry_is in
      let long : length places ≡ start_of part (length part.sequences) = records.long in
      let in' = place-in part visit.before (length part.sequences) (omega arith) (omega (arith, inside, long)) in
      let place_is : visit.before ≡ start_of part in'.grid + in'.position = in'.place_is in
      let leads = row-leads visit.from action.state visit.leads in
      let target : IsTarget part.problem action.state = target-of part.problem is.whole visit.from action.state leads in
      elim (cases_lt in'.position (length (items_at part in'.grid))) [
        | inl less ↦
            let (t, here) = item_there (items_at part in'.grid) in'.position less in
            let met = met-at part places early late ranks CanAsk records rows in'.grid in'.known on in'.position t here in
            let there : Holds course (start_of part in'.grid + in'.position) visit.entry visit.move = subst (λ (p : ℕ). Holds course p visit.entry visit.move) place_is visit.holds in
            let move_is : visit.move ≡ met.move = one-move course (start_of part in'.grid + in'.position) met.entry visit.entry met.move visit.move met.holds there in
            let entry_is : visit.entry ≡ met.entry = same_Some visit.entry met.entry (sym there.entry_is ∙ met.holds.entry_is) in
            let kind_is : kind ≡ met.entry.kind = visit.kind_is ∙ ap (λ (e : Record). e.kind) entry_is in
            let does = met.does action.state target in
            let writes : Has met.move.writes action.state = subst (λ (m : MoveSets). Has m.writes action.state) move_is visit.writes in
            record {
              grid = in'.grid;
              position = in'.position;
              t = t;
              known = in'.known;
              here = here;
              before_is = place_is;
              leads = leads;
              asked = subst (λ (k : ℕ). CanAsk k action.state) (sym kind_is) (met.asked action.state target);
              ranks_are = subst (λ (k : ℕ). AreRanksAt part.problem part.bound t ranks k action.state) (sym kind_is) (met.ranks_are action.state target);
              more = both_ways (subst (λ (m : MoveSets). IsTrue action.more ↔ Has m.more action.state) move_is visit.marks.more) (does.more writes);
              unseen = both_ways (subst (λ (m : MoveSets). IsTrue action.unseen ↔ Has m.unseen action.state) move_is visit.marks.unseen) (does.unseen writes);
              ends = both_ways (subst (λ (m : MoveSets). IsTrue action.ends ↔ Has m.ends action.state) move_is visit.marks.ends) (does.ends writes);
            }
        | inr not ↦
            let last : in'.position ≡ length (items_at part in'.grid) = omega (arith, not, in'.within) in
            let (other, still, there, dead) = dead-behind part places early late ranks CanAsk records rows in'.grid in'.known on in
            let here : Holds course (start_of part in'.grid + length (items_at part in'.grid)) visit.entry visit.move =
            subst (λ (p : ℕ). Holds course p visit.entry visit.move) (place_is ∙ ap (λ (k : ℕ). start_of part in'.grid + k) last) visit.holds in
            let move_is : visit.move ≡ still =
            one-move course (start_of part in'.grid + length (items_at part in'.grid)) other visit.entry still visit.move there here in
            absurd (dead.writes action.state (subst (λ (m : MoveSets). Has m.writes action.state) move_is visit.writes))
      ]

  -- ---- walks can be made

  pub ground-is : (on : Bool) (room : ℕ) → length part.problem.ranking.order < room → IsGround (course_for rows places early late on) ranks CanAsk room
  ground-is on room most = record {
    few = records.few;
    moves = moves-of on;
    rows = rows-closed width part.problem is.whole rows rows_are;
    last = λ place entry move next holds state writes. dead-last place entry move next holds state writes;
    readable = λ stands visit is_visit. readable-at (visit-taken on stands visit.place visit.kind visit.action is_visit);
  }
    where
      moves-of : (on : Bool) → All (λ (entry : Record). entry.of < length (course_for rows places early late on).moves) places
      moves-of true = (moves-known part places early late ranks CanAsk records).1
      moves-of false = (moves-known part places early late ranks CanAsk records).0

      dead-last : (place : ℕ) (entry : Record) (move : MoveSets) → place + 1 ≡ length places → Holds (course_for rows places early late on) place entry move
          → (state : ℕ) → Has move.writes state → ⊥
      dead-last place entry move next holds state writes =
          let long : length places ≡ start_of part (length part.sequences) = records.long in
          (dead-before on (length part.sequences) place (omega arith) (omega (arith, long, next)) entry move holds).writes state writes

      readable-at : {before from : ℕ} {visit : Visit} → IsTaken on before visit.kind visit.action from → IsReadable ranks CanAsk room visit
      readable-at {before} {from} {visit} taken = record {
        asked = taken.asked;
        once = taken.ranks_are.once;
        within = λ k d inside.
            let rank : ℕ = slice_index_or (ranks visit.kind visit.action.state) k d in
            let (v, has, few, reads) = (taken.ranks_are.exact rank).0 (Contains-get_or (ranks visit.kind visit.action.state) k d inside) in
            let least : 1 ≤ rank = has.least in
            let below : rank - 1 < length part.problem.ranking.order = slice_get_within part.problem.ranking.order (rank - 1) v has.place in
            omega (arith, least, below, most);
      }

  -- a walk can begin where a sequence does
  pub root-on : (on : Bool) (index : ℕ) → index < length part.sequences
      → AreStandsOn (course_for rows places early late on) (record { place = start_of part index; state = 0; first = true } ∷ [])
  root-on on index known =
      let root : Stand = record { place = start_of part index; state = 0; first = true } in
      let all : length rows ≡ length part.problem.transducer.labels + 1 = rows_are.all in
      let long : length places ≡ start_of part (length part.sequences) = records.long in
      let low : start_of part index + length (items_at part index) < start_of part (length part.sequences) = start-whole part index known in
      record {
        marked = marked-one root refl;
        rising = λ i j d less inside. absurd (omega (arith, less, inside));
        states = one-all (λ (stand : Stand). stand.state < length rows) root (omega (arith, all));
        places = one-all (λ (stand : Stand). stand.place < length places) root (omega (arith, long, low));
      }
    where
      one-all : (P : Stand → Type 0) (stand : Stand) → P stand → All P (stand ∷ [])
      one-all P stand holds zero d inside = holds
      one-all P stand holds (suc k) d inside = absurd (omega (arith, inside))
