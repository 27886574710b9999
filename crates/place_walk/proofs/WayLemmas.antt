-- The way of a walk through one sequence, place by place.
use Rattle.std.proofs.Common.{◌≡◌, ◌↔◌, ℕ, ◌+◌, ◌<◌, ◌≤◌, ◌⊎◌, inl, inr, Some, List, [], ◌++◌, length, get_or, sym, ap, ◌∙◌, subst, arith}
use Rattle.std.specs.List.{AllPairs, slice_get}
use Rattle.std.proofs.lemmas.Bool.{cases_lt, cases_eq}
use Rattle.std.proofs.lemmas.Option.{slice_get_within, get_or_from_slice_get, slice_get-get_or, same_Some}
use Rattle.state_bits.specs.Members.{Has}
use Rattle.state_bits.proofs.NeighbourLemmas.{Has-none}
use Rattle.mine_model.proofs.ElementLemmas.{get-held}
use Rattle.walk_memo.specs.declared.action.Action.{Action}
use Rattle.place_walk.specs.declared.stand.Stand.{Stand}
use Rattle.place_walk.specs.declared.visit.Visit.{Visit}
use Rattle.place_walk.specs.Courses.{Course}
use Rattle.place_walk.specs.Stands.{StandsAt, Arrives, IsAt}
use Rattle.place_walk.specs.Visits.{IsVisit, AreVisits}
use Rattle.place_walk.specs.Ways.{AreTaken, Joins, IsNextAt, IsStepOver, AreVisitsTo, IsOnWay, with_first}
use Rattle.place_walk.proofs.StandLemmas.{arrives-next, arrives-none, none-at}
use Rattle.place_walk.proofs.VisitLemmas.{visits-none, visits-pass, visits-more, visits-all}

-- the next place that matters is not before this one
pub next-forward : (group : List Stand) (taken place end set at : ℕ) → IsNextAt group taken place end set at
    → ((stand : Stand) → slice_get group taken ≡ Some stand → place ≤ stand.place) → place ≤ at
next-forward group taken place end set at next behind = elim next.stays [
  | inl none ↦ let (stand, here, there) = next.jumps none in let low = behind stand here in omega arith
  | inr stays ↦ omega arith
]

module _ (course : Course) (group : List Stand) (rising : AllPairs (λ one other. one.place ≤ other.place) group) where
  -- the places do not fall
  rises : (j k : ℕ) (first second : Stand) → j ≤ k → slice_get group j ≡ Some first → slice_get group k ≡ Some second → first.place ≤ second.place
  rises j k first second order at_j at_k =
      let in_k : k < length group = slice_get_within group k second at_k in
      let is_j : get_or group j first ≡ first = get_or_from_slice_get group j first first at_j in
      let is_k : get_or group k first ≡ second = get_or_from_slice_get group k second first at_k in
      elim (cases_eq j k) [
        | inl same ↦
            let one : first ≡ second = sym is_j ∙ ap (λ (i : ℕ). get_or group i first) same ∙ is_k in
            let places : first.place ≡ second.place = ap (λ (s : Stand). s.place) one in
            omega arith
        | inr apart ↦
            let low : (get_or group j first).place ≤ (get_or group k first).place = rising j k first (omega arith) in_k in
            let first_is : (get_or group j first).place ≡ first.place = ap (λ (s : Stand). s.place) is_j in
            let second_is : (get_or group k first).place ≡ second.place = ap (λ (s : Stand). s.place) is_k in
            omega arith
      ]

  -- a stand of the group has its index
  placed : (place state : ℕ) → StandsAt group place state
      → (k : ℕ) × (stand : Stand) × (slice_get group k ≡ Some stand) × (stand.place ≡ place) × (stand.state ≡ state)
  placed place state (stand, (k, inside, is), there, of) = (k, stand, slice_get-get_or group k stand inside ∙ ap Some is, there, of)

  pub way-first : (set : ℕ) → set ≡ 0 → IsOnWay course group 0 0 set []
  way-first set none = record {
    arrived = λ state. ((λ has. absurd (Has-none state (subst (λ (s : ℕ). Has s state) none has))), (λ h. absurd h));
    before = λ k stand below there. absurd (omega arith);
    behind = λ k stand above there. omega arith;
    found = visits-none course group;
  }

  module _ (taken place set : ℕ) (visits : List Visit) (way : IsOnWay course group taken place set visits) where
    -- where no path is, none stands before the next stand
    no-stand : (to : ℕ) → ((stand : Stand) → slice_get group taken ≡ Some stand → to ≤ stand.place)
        → (between state : ℕ) → place ≤ between → between < to → StandsAt group between state → ⊥
    no-stand to next between state least most has =
        let (k, stand, there, place_is, of) = placed between state has in
        elim (cases_lt k taken) [
          | inl early ↦ let low = way.before k stand early there in omega arith
          | inr late ↦
              let (first, at_first) = first-left k stand late there in
              let far = next first at_first in
              let order = rises taken k first stand late at_first there in
              omega arith
        ]
      where
        first-left : (k : ℕ) (stand : Stand) → taken ≤ k → slice_get group k ≡ Some stand → (first : Stand) × (slice_get group taken ≡ Some first)
        first-left k stand late there =
            let inside : k < length group = slice_get_within group k stand there in
            (get_or group taken stand, slice_get-get_or group taken stand (omega arith))

    idle : set ≡ 0 → (state : ℕ) → Arrives course group place state → ⊥
    idle none state arrives = Has-none state (subst (λ (s : ℕ). Has s state) none ((way.arrived state).1 arrives))

    module _ (none : set ≡ 0) (to : ℕ) (forward : place ≤ to) (next : (stand : Stand) → slice_get group taken ≡ Some stand → to ≤ stand.place) where
      -- nothing arrives there, where no path is
      nothing-arrives : (state : ℕ) → Arrives course group to state → ⊥
      nothing-arrives = arrives-none course group place to (idle none) (no-stand to next) forward

      -- and nothing is written between
      nothing-written : AreVisitsTo course group to visits
      nothing-written =
          visits-pass course group place visits way.found to forward (λ at state least most. none-at course group place to (idle none) (no-stand to next) at state least most)

    -- behind the last place nothing is written
    beyond : (end : ℕ) → end ≡ length course.places → (last : ℕ) → end ≤ last → (at kind : ℕ) (action : Action) → last < at → IsVisit course group at kind action → ⊥
    beyond end all last over at kind action late is =
        let inside : is.before < length course.places = slice_get_within course.places is.before is.entry is.holds.entry_is in
        let behind : at ≡ is.before + 1 = is.behind in
        omega arith

    -- at the end all was found
    pub way-all : (end : ℕ) → end ≡ length course.places → (end ≤ place) ⊎ ((set ≡ 0) × ((stand : Stand) → slice_get group taken ≡ Some stand → end ≤ stand.place))
        → AreVisits course group (with_first visits)
    way-all end all stops = elim stops [
      | inl over ↦ visits-all course group place visits way.found (beyond end all place over)
      | inr (none, next) ↦ elim (cases_lt place end) [
        | inl before ↦ visits-all course group end visits (nothing-written none end (omega arith) next) (beyond end all end (omega arith))
        | inr over ↦ visits-all course group place visits way.found (beyond end all place over)
      ]
    ]

    module _ (end at : ℕ) (next : IsNextAt group taken place end set at) (forward : place ≤ at) where
      -- where no path is the place is that of the next stand
      jumped : set ≡ 0 → (stand : Stand) → slice_get group taken ≡ Some stand → at ≤ stand.place
      jumped none stand here =
          let (first, at_first, place_is) = next.jumps none in
          let same : first.place ≡ stand.place = ap (λ (s : Stand). s.place) (same_Some first stand (sym at_first ∙ here)) in
          omega arith

      -- no stand that is left is before it
      not-before : (k : ℕ) (stand : Stand) → taken ≤ k → slice_get group k ≡ Some stand → at ≤ stand.place
      not-before k stand late here = elim (cases_eq at place) [
        | inl same ↦ let low = way.behind k stand late here in omega arith
        | inr apart ↦ elim next.stays [
          | inl none ↦
              let inside : k < length group = slice_get_within group k stand here in
              let at_first : slice_get group taken ≡ Some (get_or group taken stand) = slice_get-get_or group taken stand (omega arith) in
              let low = jumped none (get_or group taken stand) at_first in
              let order = rises taken k (get_or group taken stand) stand late at_first here in
              omega arith
          | inr stays ↦ absurd (apart stays)
        ]
      ]

      -- what arrives at the place
      arrived-at : (state : ℕ) → Has set state ↔ Arrives course group at state
      arrived-at state = elim (cases_eq at place) [
        | inl same ↦ subst (λ (p : ℕ). Has set state ↔ Arrives course group p state) (sym same) (way.arrived state)
        | inr apart ↦ elim next.stays [
          | inl none ↦ (
            (λ has. absurd (Has-none state (subst (λ (s : ℕ). Has s state) none has))),
            (λ arrives. absurd (nothing-arrives none at forward (jumped none) state arrives)),
          )
          | inr stays ↦ absurd (apart stays)
        ]
      ]

      -- the visits up to it
      found-at : AreVisitsTo course group at visits
      found-at = elim (cases_eq at place) [
        | inl same ↦ subst (λ (p : ℕ). AreVisitsTo course group p visits) (sym same) way.found
        | inr apart ↦ elim next.stays [
          | inl none ↦ nothing-written none at forward (jumped none)
          | inr stays ↦ absurd (apart stays)
        ]
      ]

      module _ (after : ℕ) (takes : AreTaken group taken at after) (joined : ℕ)
          (joins : (state : ℕ) → Has joined state ↔ (Has set state ⊎ Joins group taken after state)) where
        -- the stands there are those that were taken
        stands-at : (state : ℕ) → StandsAt group at state ↔ Joins group taken after state
        stands-at state = (
          (λ has.
              let (k, stand, here, there, of) = placed at state has in
              elim (cases_lt k taken) [
                | inl early ↦ let low = way.before k stand early here in absurd (omega arith)
                | inr late ↦ elim (cases_lt k after) [
                  | inl below ↦ (k, stand, late, below, here, of)
                  | inr above ↦
                      let inside : k < length group = slice_get_within group k stand here in
                      let at_first : slice_get group after ≡ Some (get_or group after stand) = slice_get-get_or group after stand (omega arith) in
                      let far = takes.left (get_or group after stand) at_first in
                      let order = rises after k (get_or group after stand) stand above at_first here in
                      absurd (omega arith)
                ]
              ]),
          (λ (k, stand, late, below, here, of).
              let high = takes.taken k stand late below here in
              let low = not-before k stand late here in
              (stand, get-held group k stand here, omega arith, of)),
        )

        -- the states where a path is then
        lives : (state : ℕ) → Has joined state ↔ IsAt course group at state
        lives state = (
          (λ has. elim ((joins state).0 has) [ inl there ↦ inl ((arrived-at state).0 there) | inr joining ↦ inr ((stands-at state).1 joining) ]),
          (λ either. (joins state).1 (elim either [ inl arrives ↦ inl ((arrived-at state).1 arrives) | inr stands ↦ inr ((stands-at state).0 stands) ])),
        )

        pub way-more : (now : ℕ) (more : List Visit) → IsStepOver course at joined now more → IsOnWay course group after (at + 1) now (visits ++ more)
        way-more now more over = record {
          arrived = arrives-next course group at over.entry over.move over.holds joined lives now over.next;
          before = λ k stand below at_k. elim (cases_lt k taken) [
            | inl early ↦ let low = way.before k stand early at_k in omega arith
            | inr late ↦ let low = takes.taken k stand late below at_k in omega arith
          ];
          behind = λ k stand above at_k.
              let inside : k < length group = slice_get_within group k stand at_k in
              let at_first : slice_get group after ≡ Some (get_or group after stand) = slice_get-get_or group after stand (omega arith) in
              let far = takes.left (get_or group after stand) at_first in
              let order = rises after k (get_or group after stand) stand above at_first at_k in
              omega arith;
          found = visits-more course group at visits found-at joined lives now more over;
        }
