-- Stands of longer prefixes, and walks from fewer or more of them.
use Rattle.std.proofs.Common.{◌≡◌, ◌↔◌, ℕ, zero, suc, ◌+◌, ◌-◌, ◌≤◌, ◌<◌, inl, inr, Bool, true, false, IsTrue, Some, List, [], ◌∷◌, ◌++◌, length, map, filter, drop, refl, sym, ap, ◌∙◌, subst, arith}
use Rattle.std.specs.List.{All, AllPairs, Contains, slice_get}
use Rattle.std.proofs.lemmas.Bool.{cases_lt}
use Rattle.std.proofs.lemmas.Option.{same_Some, slice_get_within}
use Rattle.std.proofs.lemmas.List.{append-nil, length-drop, length-append}
use Rattle.std.proofs.lemmas.List.Kept.{AllPairs-filter}
use Rattle.mine_model.proofs.ListLemmas.{Contains-cases, Contains-first, Contains-other, Contains-none, AllPairs-head, AllPairs-tail, Contains-filter, Contains-by, Contains-from, all-from, pairs-mapped}
use Rattle.mine_model.proofs.ElementLemmas.{get-from}
use Rattle.walk_memo.specs.declared.action.Action.{Action}
use Rattle.place_walk.specs.declared.stand.Stand.{Stand}
use Rattle.place_walk.specs.declared.visit.Visit.{Visit}
use Rattle.place_walk.specs.Courses.{Course}
use Rattle.place_walk.specs.Stands.{StandsAt, Arrives}
use Rattle.place_walk.specs.Visits.{IsVisit, IsBefore, AreVisits, AreVisitsOf}
use Rattle.place_walk.specs.Groups.{AreGroups, AreWalked, IsMarked}
use Rattle.stand_sums.specs.declared.aim.Aim.{Aim}
use Rattle.stand_sums.specs.Writings.{Ranks, IsReadable, opens}
use Rattle.stand_sums.specs.Files.{stand_at, stands_at, stands_in}
use Rattle.candidate_graph.specs.Courses.{IsLower, AreStandsOn, IsGround}
use Rattle.stand_sums.proofs.GroupLemmas.{stands-marked}

-- ---- the stands behind visits

-- a stand is behind a visit, whatever its mark
abbrev pub IsBehind : Visit → Stand → Type 0
IsBehind visit stand = (stand.place ≡ visit.place) × (stand.state ≡ visit.action.state)

pub at-from : (visits : List Visit) (stand : Stand) → Contains (stands_at visits) stand → (visit : Visit) × Contains visits visit × IsBehind visit stand
at-from [] stand held = absurd (Contains-none stand held)
at-from (visit ∷ visits) stand held = elim (Contains-cases (stand_at true visit) (map (stand_at false) visits) stand held) [
  | inl here ↦ (visit, Contains-first visit visits, (ap (λ (s : Stand). s.place) here, ap (λ (s : Stand). s.state) here))
  | inr there ↦
      let (one, in', is) = Contains-from (stand_at false) visits stand there in
      (one, Contains-other visit visits one in', (ap (λ (s : Stand). s.place) is, ap (λ (s : Stand). s.state) is))
]

pub at-by : (visits : List Visit) (visit : Visit) → Contains visits visit → StandsAt (stands_at visits) visit.place visit.action.state
at-by [] visit held = absurd (Contains-none visit held)
at-by (first ∷ visits) visit held = elim (Contains-cases first visits visit held) [
  | inl here ↦ (
    stand_at true first,
    Contains-first (stand_at true first) (map (stand_at false) visits),
    ap (λ (v : Visit). v.place) (sym here),
    ap (λ (v : Visit). v.action.state) (sym here),
  )
  | inr there ↦ (
    stand_at false visit,
    Contains-other (stand_at true first) (map (stand_at false) visits) (stand_at false visit) (Contains-by (stand_at false) visits visit there),
    refl,
    refl,
  )
]

at-rising : (visits : List Visit) → AllPairs IsBefore visits → AllPairs IsLower (stands_at visits)
at-rising [] pairs = λ i j d less inside. absurd (omega (arith, inside))
at-rising (visit ∷ visits) pairs = remark true (map (stand_at false) visits) (pairs-mapped (stand_at false) IsLower (visit ∷ visits) pairs)
  where
    -- the mark of the first does not matter
    remark : (mark : Bool) (others : List Stand) → AllPairs IsLower (stand_at false visit ∷ others) → AllPairs IsLower (stand_at mark visit ∷ others)
    remark mark others those zero zero d less inside = absurd (omega (arith, less))
    remark mark others those zero (suc j) d less inside = those zero (suc j) d less (omega (arith, inside))
    remark mark others those (suc i) zero d less inside = absurd (omega (arith, less))
    remark mark others those (suc i) (suc j) d less inside = those (suc i) (suc j) d less (omega (arith, inside))

module _ (course : Course) (stands : List Stand) (visits : List Visit) (are : AreVisits course stands visits) where
  -- a visit is one of a path
  pub visit-is : (visit : Visit) → Contains visits visit → IsVisit course stands visit.place visit.kind visit.action
  visit-is visit held = (are.exact visit.place visit.kind visit.action).0 (visit, held, refl, refl, refl)

  module _ (ranks : Ranks) (CanAsk : ℕ → ℕ → Type 0) (end : ℕ) (ground : IsGround course ranks CanAsk end) where
    pub all-readable : All (IsReadable ranks CanAsk end) visits
    all-readable = all-from (IsReadable ranks CanAsk end) visits (λ visit held. ground.readable stands visit (visit-is visit held))

    pub next-on : (aim : Aim) (rank : ℕ) → AreStandsOn course (stands_in ranks aim rank visits)
    next-on aim rank = record {
      marked = stands-marked (filter (opens ranks aim rank) visits);
      rising = at-rising (filter (opens ranks aim rank) visits) (AllPairs-filter IsBefore (opens ranks aim rank) visits are.rising);
      states = all-from (λ (stand : Stand). stand.state < length course.rows) (stands_in ranks aim rank visits) (λ stand held.
          let (visit, in', (place, state)) = behind stand held in
          let is = visit-is visit in' in
          let known : visit.action.state < length course.rows = ground.rows is.from visit.action.state is.leads in
          omega (arith, known, state));
      places = all-from (λ (stand : Stand). stand.place < length course.places) (stands_in ranks aim rank visits) (λ stand held.
          let (visit, in', (place, state)) = behind stand held in
          let is = visit-is visit in' in
          let next : visit.place ≡ is.before + 1 = is.behind in
          let inside : is.before < length course.places = slice_get_within course.places is.before is.entry is.holds.entry_is in
          elim (cases_lt (is.before + 1) (length course.places)) [
            | inl less ↦ omega (arith, less, next, place)
            | inr most ↦ absurd (ground.last is.before is.entry is.move (omega (arith, inside, most)) is.holds visit.action.state is.writes)
          ]);
    }
      where
        behind : (stand : Stand) → Contains (stands_in ranks aim rank visits) stand → (visit : Visit) × Contains visits visit × IsBehind visit stand
        behind stand held =
            let (visit, kept, is) = at-from (filter (opens ranks aim rank) visits) stand held in
            (visit, (Contains-filter (opens ranks aim rank) visits visit kept).0, is)

-- where they can be gone on from does not hang on moves
pub same-on : (one other : Course) (stands : List Stand) → length one.rows ≡ length other.rows → length one.places ≡ length other.places → AreStandsOn one stands → AreStandsOn other stands
same-on one other stands rows places on = record {
  marked = on.marked;
  rising = on.rising;
  states = subst (λ (n : ℕ). All (λ (stand : Stand). stand.state < n) stands) rows on.states;
  places = subst (λ (n : ℕ). All (λ (stand : Stand). stand.place < n) stands) places on.places;
}

-- they stand by place
pub on-rising : (course : Course) (stands : List Stand) → AreStandsOn course stands → AllPairs (λ one other. one.place ≤ other.place) stands
on-rising course stands on i j d less inside = elim (on.rising i j d less inside) [
  | inl lower ↦ omega (arith, lower)
  | inr (same, state) ↦ omega (arith, same)
]

-- ---- one walk goes through all stands of one sequence

pub one-group : (stands : List Stand) → 0 < length stands → IsMarked stands → AreGroups stands (stands ∷ [])
one-group stands some marked = ([], sym (append-nil stands), record { some = some; marked = marked }, refl)

pub walked-one : (course : Course) (stands : List Stand) (next : ℕ) (visits : List Visit) → 0 < next → 0 < length stands
    → AreWalked course (stands ∷ []) (drop next stands) visits → AreVisits course stands visits
walked-one course stands next visits forward some walked =
    by walked.done walked.rest walked.cut walked.left_are walked.visits_are
  where
    by : (done rest : List (List Stand)) → (stands ∷ []) ≡ done ++ rest → AreGroups (drop next stands) rest → AreVisitsOf course done visits → AreVisits course stands visits
    by [] [] cut left are = absurd (let no' : (stands ∷ []) ≡ [] = cut in cc)
    by [] (group ∷ rest) cut (behind, split, is, others) are =
        let same : stands ≡ group = same_Some stands group (ap (λ (l : List (List Stand)). slice_get l 0) cut) in
        absurd (too-long group behind same split)
      where
        too-long : (group behind : List Stand) → stands ≡ group → drop next stands ≡ group ++ behind → ⊥
        too-long group behind same split =
            let long : length (drop next stands) ≡ length stands - next = length-drop next stands in
            let more : length (group ++ behind) ≡ length group + length behind = length-append group behind in
            let equal : length (drop next stands) ≡ length (group ++ behind) = ap length split in
            let sized : length stands ≡ length group = ap length same in
            omega (arith, long, more, equal, sized, forward, some)
    by (group ∷ done) rest cut left (here, there, split, are, others) =
        let same : stands ≡ group = same_Some stands group (ap (λ (l : List (List Stand)). slice_get l 0) cut) in
        let none : there ≡ [] = last done rest (ap (λ (l : List (List Stand)). drop 1 l) cut) others in
        subst (λ (g : List Stand). AreVisits course g visits) (sym same)
        (subst (AreVisits course group) (sym (split ∙ ap (λ (l : List Visit). here ++ l) none ∙ append-nil here)) are)
      where
        last : {there : List Visit} → (done rest : List (List Stand)) → [] ≡ done ++ rest → AreVisitsOf course done there → there ≡ []
        last [] rest none is = is
        last (other ∷ done) rest none is = absurd (let no' : [] ≡ other ∷ (done ++ rest) = none in cc)

-- ---- walks from more stands

module _ (course : Course) (one other : List Stand) (within : (place state : ℕ) → StandsAt one place state → StandsAt other place state) where
  arrives-more : (place state : ℕ) → Arrives course one place state → Arrives course other place state
  arrives-more zero state arrives = absurd arrives
  arrives-more (suc before) state (from, entry, move, holds, either, leads, silent) = (
    from,
    entry,
    move,
    holds,
    elim either [
      | inl arrives ↦ inl (arrives-more before from arrives)
      | inr stands ↦ inr (within before from stands)
    ],
    leads,
    silent,
  )

  pub visit-more : (place kind : ℕ) (action : Action) → IsVisit course one place kind action → IsVisit course other place kind action
  visit-more place kind action is = record {
    before = is.before;
    behind = is.behind;
    entry = is.entry;
    move = is.move;
    holds = is.holds;
    kind_is = is.kind_is;
    from = is.from;
    is_at = elim is.is_at [
      | inl arrives ↦ inl (arrives-more is.before is.from arrives)
      | inr stands ↦ inr (within is.before is.from stands)
    ];
    leads = is.leads;
    writes = is.writes;
    marks = is.marks;
  }

-- ---- a path goes forward

module _ (course : Course) (stands : List Stand) where
  arrives-behind : (place state : ℕ) → Arrives course stands place state → (stand : Stand) × Contains stands stand × (stand.place < place)
  arrives-behind zero state arrives = absurd arrives
  arrives-behind (suc before) state (from, entry, move, holds, either, leads, silent) = elim either [
    | inl arrives ↦ let (stand, held, less) = arrives-behind before from arrives in (stand, held, omega (arith, less))
    | inr (stand, held, place, state') ↦ (stand, held, omega (arith, place))
  ]

  pub visit-behind : (place kind : ℕ) (action : Action) → IsVisit course stands place kind action → (stand : Stand) × Contains stands stand × (stand.place < place)
  visit-behind place kind action is =
      let next : place ≡ is.before + 1 = is.behind in
      elim is.is_at [
        | inl arrives ↦ let (stand, held, less) = arrives-behind is.before is.from arrives in (stand, held, omega (arith, less, next))
        | inr (stand, held, place', state') ↦ (stand, held, omega (arith, place', next))
      ]

-- ---- equal sets of stands are equal lists

lower-apart : (one other : Stand) → IsLower one other → one.place ≡ other.place → one.state ≡ other.state → ⊥
lower-apart one other lower place state = elim lower [
  | inl less ↦ omega (arith, less, place)
  | inr (same, less) ↦ omega (arith, less, state)
]

lower-back : (one other : Stand) → IsLower one other → IsLower other one → ⊥
lower-back one other lower back = elim lower [
  | inl less ↦ elim back [
    | inl more ↦ omega (arith, less, more)
    | inr (same, more) ↦ omega (arith, less, same)
  ]
  | inr (same, less) ↦ elim back [
    | inl more ↦ omega (arith, more, same)
    | inr (same', more) ↦ omega (arith, less, more)
  ]
]

-- the first of the stands is the first of the others
first-same : (one other : Stand) (ones others : List Stand) → AllPairs IsLower (one ∷ ones) → AllPairs IsLower (other ∷ others)
    → StandsAt (other ∷ others) one.place one.state → StandsAt (one ∷ ones) other.place other.state → (one.place ≡ other.place) × (one.state ≡ other.state)
first-same one other ones others rising rising' (stand, held, place, state) (stand', held', place', state') = elim (Contains-cases other others stand held) [
  | inl here ↦ (sym place ∙ ap (λ (s : Stand). s.place) here, sym state ∙ ap (λ (s : Stand). s.state) here)
  | inr later ↦ elim (Contains-cases one ones stand' held') [
    | inl here' ↦ (ap (λ (s : Stand). s.place) (sym here') ∙ place', ap (λ (s : Stand). s.state) (sym here') ∙ state')
    | inr later' ↦
        let low : IsLower other stand = AllPairs-head IsLower other others rising' stand later in
        let high : IsLower one stand' = AllPairs-head IsLower one ones rising stand' later' in
        absurd (lower-back other one (moved other stand one place state low) (moved one stand' other place' state' high))
  ]
]
  where
    moved : (low high to : Stand) → high.place ≡ to.place → high.state ≡ to.state → IsLower low high → IsLower low to
    moved low high to place state lower = elim lower [
      | inl less ↦ inl (omega (arith, less, place))
      | inr (same, less) ↦ inr (same ∙ place, omega (arith, less, state))
    ]

-- those behind are those of the others behind
rest-within : (one other : Stand) (ones others : List Stand) → AllPairs IsLower (one ∷ ones) → one.place ≡ other.place → one.state ≡ other.state
    → ((place state : ℕ) → StandsAt (one ∷ ones) place state → StandsAt (other ∷ others) place state) → (place state : ℕ) → StandsAt ones place state → StandsAt others place state
rest-within one other ones others rising place_is state_is within place state (stand, held, there, in') =
    let (found, among, place', state') = within place state (stand, Contains-other one ones stand held, there, in') in
    elim (Contains-cases other others found among) [
      | inl here ↦
          let low : IsLower one stand = AllPairs-head IsLower one ones rising stand held in
          absurd (lower-apart one stand low
          (place_is ∙ ap (λ (s : Stand). s.place) (sym here) ∙ place' ∙ sym there)
          (state_is ∙ ap (λ (s : Stand). s.state) (sym here) ∙ state' ∙ sym in'))
      | inr later ↦ (found, later, place', state')
    ]

abbrev bare-of : Stand → ℕ × ℕ
bare-of stand = (stand.place, stand.state)

-- place by place and state by state they are the same
bare-same : (ones others : List Stand) → AllPairs IsLower ones → AllPairs IsLower others → ((place state : ℕ) → StandsAt ones place state → StandsAt others place state)
    → ((place state : ℕ) → StandsAt others place state → StandsAt ones place state) → map bare-of ones ≡ map bare-of others
bare-same [] [] rising rising' there back = refl
bare-same [] (other ∷ others) rising rising' there back =
    let (stand, held, place_is, state_is) = back other.place other.state (other, Contains-first other others, refl, refl) in absurd (Contains-none stand held)
bare-same (one ∷ ones) [] rising rising' there back =
    let (stand, held, place_is, state_is) = there one.place one.state (one, Contains-first one ones, refl, refl) in absurd (Contains-none stand held)
bare-same (one ∷ ones) (other ∷ others) rising rising' there back =
    let (place, state) = first-same one other ones others rising rising' (there one.place one.state (one, Contains-first one ones, refl, refl)) (back other.place other.state (other, Contains-first other others, refl, refl)) in
    let rest : map bare-of ones ≡ map bare-of others =
    bare-same ones others (AllPairs-tail IsLower one ones rising) (AllPairs-tail IsLower other others rising')
    (rest-within one other ones others rising place state there) (rest-within other one others ones rising' (sym place) (sym state) back) in
    λ i. (place i, state i) ∷ rest i

-- with the same marks they are the same
marks-same : (ones others : List Stand) → map bare-of ones ≡ map bare-of others → ((k : ℕ) (one other : Stand) → slice_get ones k ≡ Some one → slice_get others k ≡ Some other → one.first ≡ other.first)
    → ones ≡ others
marks-same [] [] same marks = refl
marks-same [] (other ∷ others) same marks = absurd (let no' : [] ≡ bare-of other ∷ map bare-of others = same in cc)
marks-same (one ∷ ones) [] same marks = absurd (let no' : bare-of one ∷ map bare-of ones ≡ [] = same in cc)
marks-same (one ∷ ones) (other ∷ others) same marks =
    let head : (one.place, one.state) ≡ (other.place, other.state) =
    same_Some (one.place, one.state) (other.place, other.state) (ap (λ (l : List (ℕ × ℕ)). slice_get l 0) same) in
    let rest : ones ≡ others = marks-same ones others (ap (λ (l : List (ℕ × ℕ)). drop 1 l) same) (λ k x y at at'. marks (suc k) x y at at') in
    let first : one.first ≡ other.first = marks 0 one other refl refl in
    λ i. (let s : Stand = record { place = (head i).0; state = (head i).1; first = first i } in s ∷ rest i)

both-marks : (b c : Bool) (P : Type 0) → IsTrue b ↔ P → IsTrue c ↔ P → b ≡ c
both-marks true true P one other = refl
both-marks false false P one other = refl
both-marks true false P one other = sym (other.1 (one.0 refl))
both-marks false true P one other = one.1 (other.0 refl)

pub stands-same : (course course' : Course) (ones others : List Stand) → AreStandsOn course ones → AreStandsOn course' others
    → ((place state : ℕ) → StandsAt ones place state ↔ StandsAt others place state) → ones ≡ others
stands-same course course' ones others on on' same =
    marks-same ones others (bare-same ones others on.rising on'.rising (λ place state. (same place state).0) (λ place state. (same place state).1))
    (λ k one other at at'. both-marks one.first other.first (k ≡ 0) (on.marked k one at) (on'.marked k other at'))
