-- Where paths stand, place by place.
use Rattle.std.proofs.Common.{◌≡◌, ◌↔◌, ℕ, zero, suc, ◌+◌, ◌-◌, ◌≤◌, ◌<◌, inl, inr, List, [], ◌∷◌, refl, sym, ap, ◌∙◌, subst, arith}
use Rattle.std.specs.List.{All, Contains}
use Rattle.std.proofs.lemmas.Bool.{cases_lt}
use Rattle.std.proofs.lemmas.Option.{same_Some}
use Rattle.std.proofs.lemmas.List.Elements.{All-contains}
use Rattle.state_bits.specs.Members.{Has}
use Rattle.walk_memo.specs.declared.action.Action.{Action}
use Rattle.walk_memo.specs.Moves.{MoveSets}
use Rattle.walk_memo.specs.Memos.{MemoValue}
use Rattle.walk_memo.specs.Steps.{IsAfter}
use Rattle.walk_places.specs.declared.places.Record.{Record}
use Rattle.mine_model.proofs.ListLemmas.{Contains-cases, Contains-first, Contains-none}
use Rattle.place_walk.specs.declared.stand.Stand.{Stand}
use Rattle.place_walk.specs.Courses.{Course, Holds, IsWall, course_of}
use Rattle.place_walk.specs.Stands.{StandsAt, Arrives, IsAt}
use Rattle.place_walk.specs.Visits.{IsVisit}

-- memos of the same rows and moves are the same to a walk
pub same-course : (one other : MemoValue) (places : List Record) → one.rows ≡ other.rows → one.moves ≡ other.moves → course_of one places ≡ course_of other places
same-course one other places rows moves = rw (rows, moves) refl

-- a place has one record, and that names one move
pub one-entry : (course : Course) (place : ℕ) (entry other : Record) (move moves : MoveSets) → Holds course place entry move → Holds course place other moves → other ≡ entry
one-entry course place entry other move moves here there = same_Some other entry (sym there.entry_is ∙ here.entry_is)

pub one-move : (course : Course) (place : ℕ) (entry other : Record) (move moves : MoveSets) → Holds course place entry move → Holds course place other moves → moves ≡ move
one-move course place entry other move moves here there =
    let same : other ≡ entry = one-entry course place entry other move moves here there in
    same_Some moves move (sym there.move_is ∙ (rw same here.move_is))

module _ (course : Course) (group : List Stand) where
  module _ (place : ℕ) (entry : Record) (move : MoveSets) (holds : Holds course place entry move) (set : ℕ)
      (lives : (state : ℕ) → Has set state ↔ IsAt course group place state) (next : ℕ) (after : IsAfter course.rows move set next) where
    arrives-at : (state : ℕ) → Has next state ↔ Arrives course group (suc place) state
    arrives-at state = (
      (λ has.
          let ((from, leads, held), silent) = (after state).0 has in
          (from, entry, move, holds, (lives from).0 held, leads, silent)),
      (λ (from, other, moves, there, is_at, leads, silent).
          let same : moves ≡ move = one-move course place entry other move moves holds there in
          (after state).1 ((from, leads, (lives from).1 is_at), subst (λ (m : MoveSets). Has m.silent state) same silent)),
    )

    -- what arrives behind the place
    pub arrives-next : (state : ℕ) → Has next state ↔ Arrives course group (place + 1) state
    arrives-next state =
        let behind : suc place ≡ place + 1 = omega arith in
        subst (λ (p : ℕ). Has next state ↔ Arrives course group p state) behind (arrives-at state)

  -- ---- where nothing is left

  module _ (from to : ℕ) (none : (state : ℕ) → Arrives course group from state → ⊥)
      (no_more : (at state : ℕ) → from ≤ at → at < to → StandsAt group at state → ⊥) where
    none-there : (distance at state : ℕ) → at ≡ from + distance → at < to → IsAt course group at state → ⊥
    none-there zero at state same before either =
        let first : at ≡ from = omega arith in
        elim either [
          | inl arrives ↦ none state (subst (λ (k : ℕ). Arrives course group k state) first arrives)
          | inr stands ↦ no_more at state (omega arith) before stands
        ]
    none-there (suc distance) at state same before either =
        let next : at ≡ suc (from + distance) = omega arith in
        elim either [
          | inl arrives ↦
              let (last, entry, move, holds, earlier, leads, silent) = subst (λ (k : ℕ). Arrives course group k state) next arrives in
              none-there distance (from + distance) last refl (omega arith) earlier
          | inr stands ↦ no_more at state (omega arith) before stands
        ]

    -- no path is there, up to the next stand
    pub none-at : (at state : ℕ) → from ≤ at → at < to → IsAt course group at state → ⊥
    none-at at state least most is = none-there (at - from) at state (omega arith) most is

    none-arrives : (at : ℕ) → from ≤ at → at ≤ to → (state : ℕ) → Arrives course group at state → ⊥
    none-arrives zero least most state arrives = absurd arrives
    none-arrives (suc before) least most state arrives = elim (cases_lt before from) [
      | inl first ↦
          let same : suc before ≡ from = omega arith in
          none state (subst (λ (k : ℕ). Arrives course group k state) same arrives)
      | inr later ↦
          let (last, entry, move, holds, earlier, leads, silent) = arrives in
          none-at before last later (omega arith) earlier
    ]

    -- and none arrives any more
    pub arrives-none : from ≤ to → (state : ℕ) → Arrives course group to state → ⊥
    arrives-none forward = none-arrives to forward (omega arith)

-- ---- the laws

module _ (course : Course) (stands : List Stand) where
  stands-alone : (stand : Stand) (place state : ℕ) → StandsAt (stand ∷ []) place state → (stand.place ≡ place) × (stand.state ≡ state)
  stands-alone stand place state (other, held, place_is, state_is) = elim (Contains-cases stand [] other held) [
    | inl same ↦ (ap (λ (s : Stand). s.place) (sym same) ∙ place_is, ap (λ (s : Stand). s.state) (sym same) ∙ state_is)
    | inr none ↦ absurd (Contains-none other none)
  ]

  arrives-one : (place state : ℕ) → Arrives course stands place state → (stand : Stand) × Contains stands stand × Arrives course (stand ∷ []) place state
  arrives-one zero state arrives = absurd arrives
  arrives-one (suc before) state (from, entry, move, holds, either, leads, silent) = elim either [
    | inl arrives ↦
        let (stand, held, alone) = arrives-one before from arrives in
        (stand, held, (from, entry, move, holds, inl alone, leads, silent))
    | inr (stand, held, place_is, state_is) ↦
        (stand, held, (from, entry, move, holds, inr (stand, Contains-first stand [], place_is, state_is), leads, silent))
  ]

  arrives-any : (stand : Stand) → Contains stands stand → (place state : ℕ) → Arrives course (stand ∷ []) place state → Arrives course stands place state
  arrives-any stand held zero state arrives = absurd arrives
  arrives-any stand held (suc before) state (from, entry, move, holds, either, leads, silent) = (
    from,
    entry,
    move,
    holds,
    elim either [
      | inl arrives ↦ inl (arrives-any stand held before from arrives)
      | inr alone ↦ let (place_is, state_is) = stands-alone stand before from alone in inr (stand, held, place_is, state_is)
    ],
    leads,
    silent,
  )

  -- a path is there exactly where one from one of the stands is
  pub is-at-each : (place state : ℕ) → IsAt course stands place state ↔ ((stand : Stand) × Contains stands stand × IsAt course (stand ∷ []) place state)
  is-at-each place state = (
    (λ either. elim either [
      | inl arrives ↦ let (stand, held, alone) = arrives-one place state arrives in (stand, held, inl alone)
      | inr (stand, held, place_is, state_is) ↦ (stand, held, inr (stand, Contains-first stand [], place_is, state_is))
    ]),
    (λ (stand, held, either). elim either [
      | inl arrives ↦ inl (arrives-any stand held place state arrives)
      | inr alone ↦ let (place_is, state_is) = stands-alone stand place state alone in inr (stand, held, place_is, state_is)
    ]),
  )

  pub visits-each : (place kind : ℕ) (action : Action) → IsVisit course stands place kind action
      ↔ ((stand : Stand) × Contains stands stand × IsVisit course (stand ∷ []) place kind action)
  visits-each place kind action = (
    (λ is.
        let (stand, held, alone) = (is-at-each is.before is.from).0 is.is_at in (
          stand,
          held,
          record {
            before = is.before;
            behind = is.behind;
            entry = is.entry;
            move = is.move;
            holds = is.holds;
            kind_is = is.kind_is;
            from = is.from;
            is_at = alone;
            leads = is.leads;
            writes = is.writes;
            marks = is.marks;
          },
        )),
    (λ (stand, held, is).
        record {
          before = is.before;
          behind = is.behind;
          entry = is.entry;
          move = is.move;
          holds = is.holds;
          kind_is = is.kind_is;
          from = is.from;
          is_at = (is-at-each is.before is.from).1 (stand, held, is.is_at);
          leads = is.leads;
          writes = is.writes;
          marks = is.marks;
        }),
  )

  -- nothing comes behind a wall
  pub wall-stops : (wall : ℕ) → IsWall course wall → All (λ stand. stand.place ≤ wall) stands → (place kind : ℕ) (action : Action) → IsVisit course stands place kind action → place ≤ wall + 1
  wall-stops wall is all place kind action visit = elim (cases_lt wall visit.before) [
    | inl behind ↦ absurd (none-at course stands (suc wall) (suc visit.before) none no-more visit.before visit.from (omega arith) (omega arith) visit.is_at)
    | inr early ↦ let same : place ≡ visit.before + 1 = visit.behind in omega arith
  ]
    where
      none : (state : ℕ) → Arrives course stands (suc wall) state → ⊥
      none state (from, entry, move, holds, either, leads, silent) = is entry move holds state silent

      no-more : (at state : ℕ) → suc wall ≤ at → at < suc visit.before → StandsAt stands at state → ⊥
      no-more at state least most (stand, held, place_is, state_is) =
          let low : stand.place ≤ wall = All-contains (λ (s : Stand). s.place ≤ wall) stands stand all held in
          omega arith
