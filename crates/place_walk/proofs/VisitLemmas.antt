-- The visits of a walk, place by place.
use Rattle.std.proofs.Common.{◌≡◌, ◌↔◌, ℕ, zero, suc, ◌+◌, ◌≤◌, ◌<◌, ◌⊎◌, inl, inr, true, false, IsTrue, Some, List, [], ◌∷◌, ◌++◌, map, get_or, refl, sym, ap, ◌∙◌, subst, arith, true≢false}
use Rattle.std.specs.List.{AllPairs, Contains, slice_get}
use Rattle.std.proofs.lemmas.Bool.{cases_lt}
use Rattle.std.proofs.lemmas.List.{get_or_default}
use Rattle.std.proofs.lemmas.List.Elements.{Contains-append_left, Contains-append_right, Contains-append_cases}
use Rattle.std.proofs.lemmas.List.Kept.{AllPairs-cons}
use Rattle.std.proofs.lemmas.Option.{same_Some}
use Rattle.state_bits.specs.Members.{Has}
use Rattle.walk_memo.specs.declared.action.Action.{Action}
use Rattle.walk_memo.specs.Moves.{MoveSets}
use Rattle.walk_memo.specs.Steps.{IsMarked}
use Rattle.walk_places.specs.declared.places.Record.{Record}
use Rattle.mine_model.proofs.ListLemmas.{Contains-cases, Contains-first, Contains-other, Contains-none, Contains-by, Contains-from, AllPairs-tail, AllPairs-head, AllPairs-append}
use Rattle.mine_model.proofs.ElementLemmas.{get-held}
use Rattle.place_walk.specs.declared.stand.Stand.{Stand}
use Rattle.place_walk.specs.declared.visit.Visit.{Visit}
use Rattle.place_walk.specs.Courses.{Course, Holds}
use Rattle.place_walk.specs.Stands.{IsAt}
use Rattle.place_walk.specs.Visits.{IsVisit, HasVisit, IsBefore, AreVisits}
use Rattle.place_walk.specs.Ways.{visit_of, with_first, IsStepOver, AreVisitsTo}
use Rattle.place_walk.proofs.StandLemmas.{one-entry, one-move}

-- ---- lists of visits

pub visit-either : (one other : List Visit) (place kind : ℕ) (action : Action) → HasVisit (one ++ other) place kind action
    ↔ (HasVisit one place kind action ⊎ HasVisit other place kind action)
visit-either one other place kind action = (
  (λ (visit, held, place_is, kind_is, action_is). elim (Contains-append_cases one other visit held) [
    | inl here ↦ inl (visit, here, place_is, kind_is, action_is)
    | inr there ↦ inr (visit, there, place_is, kind_is, action_is)
  ]),
  (λ either. elim either [
    | inl (visit, held, place_is, kind_is, action_is) ↦ (visit, Contains-append_left one other visit held, place_is, kind_is, action_is)
    | inr (visit, held, place_is, kind_is, action_is) ↦ (visit, Contains-append_right one other visit held, place_is, kind_is, action_is)
  ]),
)

pub visit-mapped : (at kind_at : ℕ) (actions : List Action) (place kind : ℕ) (action : Action) → HasVisit (map (visit_of at kind_at) actions) place kind action
    ↔ ((place ≡ at) × (kind ≡ kind_at) × Contains actions action)
visit-mapped at kind_at actions place kind action = (
  (λ (visit, held, place_is, kind_is, action_is).
      let (one, there, is) = Contains-from (visit_of at kind_at) actions visit held in
      let place_one : visit.place ≡ at = ap (λ (v : Visit). v.place) is in
      let kind_one : visit.kind ≡ kind_at = ap (λ (v : Visit). v.kind) is in
      let action_one : visit.action ≡ one = ap (λ (v : Visit). v.action) is in
      (sym place_is ∙ place_one, sym kind_is ∙ kind_one, subst (Contains actions) (sym action_one ∙ action_is) there)),
  (λ (place_is, kind_is, there). (visit_of at kind_at action, Contains-by (visit_of at kind_at) actions action there, sym place_is, sym kind_is, refl)),
)

pub rising-mapped : (at kind_at : ℕ) (actions : List Action) → AllPairs (λ one other. one.state < other.state) actions → AllPairs IsBefore (map (visit_of at kind_at) actions)
rising-mapped at kind_at [] pairs = λ i j d less within. absurd (omega arith)
rising-mapped at kind_at (action ∷ actions) pairs =
    AllPairs-cons IsBefore (visit_of at kind_at action) (map (visit_of at kind_at) actions)
    (λ k d below.
    let visit : Visit = get_or (map (visit_of at kind_at) actions) k d in
    let (one, there, is) = Contains-from (visit_of at kind_at) actions visit (k, below, get_or_default (map (visit_of at kind_at) actions) k visit d below) in
    let less : action.state < one.state = AllPairs-head (λ (x : Action) (y : Action). x.state < y.state) action actions pairs one there in
    subst (IsBefore (visit_of at kind_at action)) (sym is) (inr (refl, less)))
    (rising-mapped at kind_at actions (AllPairs-tail (λ (x : Action) (y : Action). x.state < y.state) action actions pairs))

-- ---- the first is marked

pub visit-marked : (visits : List Visit) (place kind : ℕ) (action : Action) → HasVisit (with_first visits) place kind action ↔ HasVisit visits place kind action
visit-marked [] place kind action = ((λ has. has), (λ has. has))
visit-marked (first ∷ visits) place kind action =
    let mark : Visit = record { place = first.place; kind = first.kind; action = first.action; first = true } in (
      (λ (visit, held, place_is, kind_is, action_is). elim (Contains-cases mark visits visit held) [
        | inl same ↦ (
          first,
          Contains-first first visits,
          ap (λ (v : Visit). v.place) (sym same) ∙ place_is,
          ap (λ (v : Visit). v.kind) (sym same) ∙ kind_is,
          ap (λ (v : Visit). v.action) (sym same) ∙ action_is,
        )
        | inr other ↦ (visit, Contains-other first visits visit other, place_is, kind_is, action_is)
      ]),
      (λ (visit, held, place_is, kind_is, action_is). elim (Contains-cases first visits visit held) [
        | inl same ↦ (
          mark,
          Contains-first mark visits,
          ap (λ (v : Visit). v.place) (sym same) ∙ place_is,
          ap (λ (v : Visit). v.kind) (sym same) ∙ kind_is,
          ap (λ (v : Visit). v.action) (sym same) ∙ action_is,
        )
        | inr other ↦ (visit, Contains-other mark visits visit other, place_is, kind_is, action_is)
      ]),
    )

rising-marked : (visits : List Visit) → AllPairs IsBefore visits → AllPairs IsBefore (with_first visits)
rising-marked [] pairs = pairs
rising-marked (first ∷ visits) pairs =
    let mark : Visit = record { place = first.place; kind = first.kind; action = first.action; first = true } in
    AllPairs-cons IsBefore mark visits
    (λ k d below. AllPairs-head IsBefore first visits pairs (get_or visits k d) (k, below, get_or_default visits k (get_or visits k d) d below))
    (AllPairs-tail IsBefore first visits pairs)

first-marked : (visits : List Visit) → ((visit : Visit) → Contains visits visit → visit.first ≡ false)
    → (k : ℕ) (visit : Visit) → slice_get (with_first visits) k ≡ Some visit → IsTrue visit.first ↔ (k ≡ 0)
first-marked [] plain k visit is = absurd (cc)
first-marked (first ∷ visits) plain zero visit is =
    let mark : Visit = record { place = first.place; kind = first.kind; action = first.action; first = true } in
    let same : mark ≡ visit = same_Some mark visit is in
    ((λ _. refl), (λ _. sym (ap (λ (v : Visit). v.first) same)))
first-marked (first ∷ visits) plain (suc k) visit is =
    let none : visit.first ≡ false = plain visit (Contains-other first visits visit (get-held visits k visit is)) in (
      (λ yes'. absurd (true≢false (sym yes' ∙ none))),
      (λ same. absurd (omega arith)),
    )

module _ (course : Course) (group : List Stand) where
  -- ---- what was found

  pub visits-none : AreVisitsTo course group 0 []
  visits-none = record {
    rising = λ i j d less within. absurd (omega arith);
    most = λ visit held. absurd (Contains-none visit held);
    right = λ at kind action (visit, held, place_is, kind_is, action_is). absurd (Contains-none visit held);
    all = λ at kind action most is. let behind : at ≡ is.before + 1 = is.behind in absurd (omega arith);
    plain = λ visit held. absurd (Contains-none visit held);
  }

  module _ (place : ℕ) (visits : List Visit) (are : AreVisitsTo course group place visits) where
    -- over places where no path is
    pub visits-pass : (later : ℕ) → place ≤ later → ((at state : ℕ) → place ≤ at → at < later → IsAt course group at state → ⊥)
        → AreVisitsTo course group later visits
    visits-pass later forward none = record {
      rising = are.rising;
      most = λ visit held. let most = are.most visit held in omega arith;
      right = are.right;
      all = λ at kind action most is. let behind : at ≡ is.before + 1 = is.behind in elim (cases_lt place at) [
        | inl late ↦ absurd (none is.before is.from (omega arith) (omega arith) is.is_at)
        | inr early ↦ are.all at kind action early is
      ];
      plain = are.plain;
    }

    -- all were found, where no path writes behind
    pub visits-all : ((at kind : ℕ) (action : Action) → place < at → IsVisit course group at kind action → ⊥) → AreVisits course group (with_first visits)
    visits-all none = record {
      rising = rising-marked visits are.rising;
      exact = λ at kind action. (
        (λ has. are.right at kind action ((visit-marked visits at kind action).0 has)),
        (λ is. elim (cases_lt place at) [
          | inl late ↦ absurd (none at kind action late is)
          | inr early ↦ (visit-marked visits at kind action).1 (are.all at kind action early is)
        ]),
      );
      first = first-marked visits are.plain;
    }

    module _ (set : ℕ) (lives : (state : ℕ) → Has set state ↔ IsAt course group place state) (after : ℕ) (more : List Visit)
        (over : IsStepOver course place set after more) where
      -- an action there is a visit behind the place
      visit-there : (action : Action) → Contains over.actions action → IsVisit course group (place + 1) over.entry.kind action
      visit-there action held =
          let ((from, leads, has), writes, marks) = (over.exact.exact action).0 held in
          record {
            before = place;
            behind = refl;
            entry = over.entry;
            move = over.move;
            holds = over.holds;
            kind_is = refl;
            from = from;
            is_at = (lives from).0 has;
            leads = leads;
            writes = writes;
            marks = marks;
          }

      visit-here : (at kind : ℕ) (action : Action) → IsVisit course group at kind action → at ≡ place + 1 → (kind ≡ over.entry.kind) × Contains over.actions action
      visit-here at kind action is here =
          let behind : at ≡ is.before + 1 = is.behind in
          let same : is.before ≡ place = omega arith in
          let holds : Holds course place is.entry is.move = subst (λ (p : ℕ). Holds course p is.entry is.move) same is.holds in
          let entry_is : is.entry ≡ over.entry = one-entry course place over.entry is.entry over.move is.move over.holds holds in
          let move_is : is.move ≡ over.move = one-move course place over.entry is.entry over.move is.move over.holds holds in
          let is_at : IsAt course group place is.from = subst (λ (p : ℕ). IsAt course group p is.from) same is.is_at in (
            is.kind_is ∙ ap (λ (e : Record). e.kind) entry_is,
            (over.exact.exact action).1 (
              (is.from, is.leads, (lives is.from).1 is_at),
              subst (λ (m : MoveSets). Has m.writes action.state) move_is is.writes,
              subst (λ (m : MoveSets). IsMarked m action) move_is is.marks,
            ),
          )

      -- over one place more
      pub visits-more : AreVisitsTo course group (place + 1) (visits ++ more)
      visits-more = record {
        rising = AllPairs-append IsBefore visits more are.rising (rw over.written (rising-mapped (place + 1) over.entry.kind over.actions over.exact.rising))
            (λ one other here there.
            let low : one.place ≤ place = are.most one here in
            let high : other.place ≡ place + 1 = place-of other there in
            inl (omega arith));
        most = λ visit held. elim (Contains-append_cases visits more visit held) [
          | inl here ↦ let low : visit.place ≤ place = are.most visit here in omega arith
          | inr there ↦ let high : visit.place ≡ place + 1 = place-of visit there in omega arith
        ];
        right = λ at kind action has. elim ((visit-either visits more at kind action).0 has) [
          | inl here ↦ are.right at kind action here
          | inr there ↦
              let (at_is, kind_is, held) = (visit-mapped (place + 1) over.entry.kind over.actions at kind action).0 (subst (λ (vs : List Visit). HasVisit vs at kind action) over.written there) in
              subst (λ (p : ℕ). IsVisit course group p kind action) (sym at_is)
              (subst (λ (k : ℕ). IsVisit course group (place + 1) k action) (sym kind_is) (visit-there action held))
        ];
        all = λ at kind action most is. elim (cases_lt place at) [
          | inl late ↦
              let here : at ≡ place + 1 = omega arith in
              let (kind_is, held) = visit-here at kind action is here in
              (visit-either visits more at kind action).1 (inr (subst (λ (vs : List Visit). HasVisit vs at kind action) (sym over.written)
              ((visit-mapped (place + 1) over.entry.kind over.actions at kind action).1 (here, kind_is, held))))
          | inr early ↦ (visit-either visits more at kind action).1 (inl (are.all at kind action early is))
        ];
        plain = λ visit held. elim (Contains-append_cases visits more visit held) [
          | inl here ↦ are.plain visit here
          | inr there ↦ plain-of visit there
        ];
      }
        where
          place-of : (visit : Visit) → Contains more visit → visit.place ≡ place + 1
          place-of visit held =
              let (one, there, is) = Contains-from (visit_of (place + 1) over.entry.kind) over.actions visit (subst (λ (vs : List Visit). Contains vs visit) over.written held) in
              ap (λ (v : Visit). v.place) is

          plain-of : (visit : Visit) → Contains more visit → visit.first ≡ false
          plain-of visit held =
              let (one, there, is) = Contains-from (visit_of (place + 1) over.entry.kind) over.actions visit (subst (λ (vs : List Visit). Contains vs visit) over.written held) in
              ap (λ (v : Visit). v.first) is
