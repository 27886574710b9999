-- The listed events are those that are enabled, and each schedule ends with a cover.
use Rattle.std.proofs.Common.{◌≡◌, ◌≢◌, ℕ, zero, suc, ◌+◌, ◌%◌, ◌<◌, ◌≤◌, ◌⊎◌, inl, inr, false, Option, Some, None, List, [], ◌∷◌, ◌++◌, set, slice_get, get_or, length, refl, sym, ap, ◌∙◌, subst, arith, flat_map, Contains, true≢false}
use Rattle.std.specs.Prelude.{◌==◌}
use Rattle.std.specs.List.{range_with_len}
use Rattle.std.proofs.Math.Nat.{mod-lt, mod-eq_of_lt}
use Rattle.std.proofs.lemmas.List.FromFn.{length-range_with_len, get_or-range_with_len}
use Rattle.std.proofs.lemmas.Bool.{cases_Bool, cond-true, cond-false, eqb-true, eq-eqb}
use Rattle.std.proofs.lemmas.Option.{slice_get_within}
use Rattle.std.proofs.lemmas.List.Elements.{Contains-append_right, Contains-append_cases}
use Rattle.mine_model.proofs.ListLemmas.{Contains-cases, Contains-first, Contains-other, Contains-none}
use Rattle.mine_model.proofs.ElementLemmas.{get-held, flat-cases, flat-held, get-some}
use Rattle.search_tree.specs.Cover.{Covers}
use Rattle.pool_schedule.specs.State.{Load, State, IsBalanced}
use Rattle.pool_schedule.specs.Steps.{Step, IsQuiet}
use Rattle.pool_schedule.specs.declared.event.Event.{Event}
use Rattle.pool_schedule.specs.declared.event.Event.TheVariants.{Post, Grow, Put, Take, Steal}
use Rattle.pool_schedule.proofs.Measure.{IsWithin, extra, to_do}
use Rattle.pool_schedule.specs.Schedule.{where_any, steal_from, steals, own_events, events_of, enabled, Picks, first_choice, later_choices, IsScheduled}
use Rattle.pool_schedule.proofs.BalanceLemmas.{step-balance, step-within, step-less}
use Rattle.pool_schedule.proofs.QuietLemmas.{has_last}

range-held : (n w : ℕ) → w < n → Contains (range_with_len 0 n) w
range-held n w l =
    let long : length (range_with_len 0 n) ≡ n = length-range_with_len 0 n in
    let there : get_or (range_with_len 0 n) w w ≡ 0 + w = get_or-range_with_len 0 n w w l in
    (w, omega arith, omega arith)

any-cases : (labels : List (List ℕ)) (event other : Event) → Contains (where_any labels event) other → (label : List ℕ) × (rest : List (List ℕ)) × (other ≡ event) × (labels ≡ label ∷ rest)
any-cases [] event other is = absurd (Contains-none other is)
any-cases (label ∷ rest) event other is = elim (Contains-cases event [] other is) [ inl same ↦ (label, rest, same, refl) | inr not ↦ absurd (Contains-none other not) ]

any-held : (labels rest : List (List ℕ)) (label : List ℕ) (event : Event) → labels ≡ label ∷ rest → Contains (where_any labels event) event
any-held labels rest label event is = subst (λ (l : List (List ℕ)). Contains (where_any l event) event) (sym is) (Contains-first event [])

pub not-same : (v w : ℕ) → v ≢ w → (v == w) ≡ false
not-same v w other = elim (cases_Bool (v == w)) [ inl same ↦ absurd (other (eqb-true v w same)) | inr is ↦ is ]

-- what is listed is enabled

steal-from-cases : (w v : ℕ) (found : Option Load) (event : Event) → Contains (steal_from w v found) event
    → (worker : Load) × (label : List ℕ) × (rest : List (List ℕ)) × (event ≡ Steal w v) × (v ≢ w) × (found ≡ Some worker) × (worker.deque ≡ label ∷ rest)
steal-from-cases w v None event is = absurd (Contains-none event is)
steal-from-cases w v (Some victim) event is = elim (cases_Bool (v == w)) [
  | inl same ↦ absurd (Contains-none event (subst (λ (l : List Event). Contains l event) (cond-true (v == w) [] (where_any victim.deque (Steal w v)) same) is))
  | inr other ↦
      let held : Contains (where_any victim.deque (Steal w v)) event = subst (λ (l : List Event). Contains l event) (cond-false (v == w) [] (where_any victim.deque (Steal w v)) other) is in
      let (label, rest, same, deque) = any-cases victim.deque (Steal w v) event held in
      (victim, label, rest, same, (λ e. true≢false (sym (eq-eqb v w e) ∙ other)), refl, deque)
]

steals-cases : (workers : List Load) (w : ℕ) (event : Event) → Contains (steals workers w) event
    → (v : ℕ) × (worker : Load) × (label : List ℕ) × (rest : List (List ℕ)) × (event ≡ Steal w v) × (v ≢ w) × (slice_get workers v ≡ Some worker) × (worker.deque ≡ label ∷ rest)
steals-cases workers w event is =
    let (v, held, part) = flat-cases (λ v. steal_from w v (slice_get workers v)) (range_with_len 0 (length workers)) event is in
    let (worker, label, rest, same, other, at, deque) = steal-from-cases w v (slice_get workers v) event part in
    (v, worker, label, rest, same, other, at, deque)

steals-held : (workers : List Load) (w v : ℕ) (victim : Load) (label : List ℕ) (rest : List (List ℕ)) → slice_get workers v ≡ Some victim → v ≢ w → victim.deque ≡ label ∷ rest
    → Contains (steals workers w) (Steal w v)
steals-held workers w v victim label rest at other deque =
    flat-held (λ v. steal_from w v (slice_get workers v)) (range_with_len 0 (length workers)) v (Steal w v) (range-held (length workers) v (slice_get_within workers v victim at))
    (subst (λ (found : Option Load). Contains (steal_from w v found) (Steal w v)) (sym at)
    (subst (λ (l : List Event). Contains l (Steal w v)) (sym (cond-false (v == w) [] (where_any victim.deque (Steal w v)) (not-same v w other)))
    (any-held victim.deque rest label (Steal w v) deque)))

Next : (List ℕ → List (List ℕ)) → Event → State → Type 0
Next kids event machine = (after : State) × Step kids event machine after

next-of : (kids : List ℕ → List (List ℕ)) (machine : State) (event other : Event) (after : State) → event ≡ other → Step kids other machine after → Next kids event machine
unfolding Next
next-of kids machine event other after same s = (after, subst (λ e. Step kids e machine after) (sym same) s)

own-enabled : (kids : List ℕ → List (List ℕ)) (machine : State) (w : ℕ) (worker : Load) → slice_get machine.workers w ≡ Some worker
    → (pending : Option (List ℕ)) (stack deque : List (List ℕ)) → worker.pending ≡ pending → worker.stack ≡ stack → worker.deque ≡ deque
    → (event : Event) → Contains (own_events w pending stack deque (steals machine.workers w)) event → Next kids event machine
own-enabled kids machine w worker at (Some label) stack deque p h d event is = elim (Contains-cases (Post w) [] event is) [
  | inl same ↦ next-of kids machine event (Post w) (record { workers = set machine.workers w (record { deque = worker.deque; stack = worker.stack; pending = None }); posted = machine.posted ++ label ∷ [] }) same
      (record { worker = worker; label = label; at = at; pending = p; workers = refl; posted = refl })
  | inr not ↦ absurd (Contains-none event not)
]
own-enabled kids machine w worker at None (label ∷ others) deque p h d event is = elim (Contains-cases (Grow w) (Put w ∷ []) event is) [
  | inl same ↦
      let (rest, last, e) = has_last label others in
      next-of kids machine event (Grow w) (record { workers = set machine.workers w (record { deque = worker.deque; stack = rest ++ kids last; pending = Some last }); posted = machine.posted }) same
      (record { worker = worker; rest = rest; label = last; at = at; pending = p; stack = h ∙ e; workers = refl; posted = refl })
  | inr later ↦ elim (Contains-cases (Put w) [] event later) [
    | inl same ↦ next-of kids machine event (Put w) (record { workers = set machine.workers w (record { deque = worker.deque ++ label ∷ []; stack = others; pending = None }); posted = machine.posted }) same
        (record { worker = worker; rest = others; label = label; at = at; pending = p; stack = h; workers = refl; posted = refl })
    | inr not ↦ absurd (Contains-none event not)
  ]
]
own-enabled kids machine w worker at None [] deque p h d event is = elim (Contains-append_cases (where_any deque (Take w)) (steals machine.workers w) event is) [
  | inl here ↦
      let (label, others, same, some) = any-cases deque (Take w) event here in
      let (rest, last, e) = has_last label others in
      next-of kids machine event (Take w) (record { workers = set machine.workers w (record { deque = rest; stack = last ∷ []; pending = None }); posted = machine.posted }) same
      (record { worker = worker; rest = rest; label = last; at = at; pending = p; stack = h; deque = d ∙ some ∙ e; workers = refl; posted = refl })
  | inr there ↦
      let (v, victim, label, rest, same, other, at_victim, full) = steals-cases machine.workers w event there in
      next-of kids machine event (Steal w v) (record { workers = set (set machine.workers v (record { deque = rest; stack = victim.stack; pending = victim.pending })) w (record { deque = worker.deque; stack = label ∷ []; pending = None }); posted = machine.posted }) same
      (record { worker = worker; victim = victim; rest = rest; label = label; other = other; at = at; at_victim = at_victim; pending = p; stack = h; deque = full; workers = refl; posted = refl })
]

worker-enabled : (kids : List ℕ → List (List ℕ)) (machine : State) (w : ℕ) (found : Option Load) → slice_get machine.workers w ≡ found
    → (event : Event) → Contains (events_of machine.workers w found) event → Next kids event machine
worker-enabled kids machine w None at event is = absurd (Contains-none event is)
worker-enabled kids machine w (Some worker) at event is = own-enabled kids machine w worker at worker.pending worker.stack worker.deque refl refl refl event is

pub listed_enabled : (kids : List ℕ → List (List ℕ)) (machine : State) (event : Event) → Contains (enabled machine) event → (after : State) × Step kids event machine after
unfolding Next
listed_enabled kids machine event is =
    let (w, held, part) = flat-cases (λ w. events_of machine.workers w (slice_get machine.workers w)) (range_with_len 0 (length machine.workers)) event is in
    worker-enabled kids machine w (slice_get machine.workers w) refl event part

own-listed : (machine : State) (w : ℕ) (worker : Load) (event : Event) → slice_get machine.workers w ≡ Some worker
    → Contains (own_events w worker.pending worker.stack worker.deque (steals machine.workers w)) event → Contains (enabled machine) event
own-listed machine w worker event at is =
    flat-held (λ w. events_of machine.workers w (slice_get machine.workers w)) (range_with_len 0 (length machine.workers)) w event
    (range-held (length machine.workers) w (slice_get_within machine.workers w worker at))
    (subst (λ (found : Option Load). Contains (events_of machine.workers w found) event) (sym at) is)

snoc-cons : (rest : List (List ℕ)) (label : List ℕ) → (first : List ℕ) × (others : List (List ℕ)) × (rest ++ label ∷ [] ≡ first ∷ others)
snoc-cons [] label = (label, [], refl)
snoc-cons (x ∷ rest) label = (x, rest ++ label ∷ [], refl)

own-at : (w : ℕ) (worker : Load) (others : List Event) (pending : Option (List ℕ)) (stack deque : List (List ℕ)) (event : Event) → worker.pending ≡ pending → worker.stack ≡ stack → worker.deque ≡ deque
    → Contains (own_events w pending stack deque others) event → Contains (own_events w worker.pending worker.stack worker.deque others) event
own-at w worker others pending stack deque event p h d is =
    subst (λ (x : Option (List ℕ)). Contains (own_events w x worker.stack worker.deque others) event) (sym p)
    (subst (λ (x : List (List ℕ)). Contains (own_events w pending x worker.deque others) event) (sym h)
    (subst (λ (x : List (List ℕ)). Contains (own_events w pending stack x others) event) (sym d) is))

pub enabled_listed : (kids : List ℕ → List (List ℕ)) (machine : State) (event : Event) (after : State) → Step kids event machine after → Contains (enabled machine) event
enabled_listed kids machine (Post w) after s = own-listed machine w s.worker (Post w) s.at
    (own-at w s.worker (steals machine.workers w) (Some s.label) s.worker.stack s.worker.deque (Post w) s.pending refl refl (Contains-first (Post w) []))
enabled_listed kids machine (Grow w) after s =
    let (first, others, e) = snoc-cons s.rest s.label in
    own-listed machine w s.worker (Grow w) s.at
    (own-at w s.worker (steals machine.workers w) None (first ∷ others) s.worker.deque (Grow w) s.pending (s.stack ∙ e) refl (Contains-first (Grow w) (Put w ∷ [])))
enabled_listed kids machine (Put w) after s = own-listed machine w s.worker (Put w) s.at
    (own-at w s.worker (steals machine.workers w) None (s.label ∷ s.rest) s.worker.deque (Put w) s.pending s.stack refl (Contains-other (Grow w) (Put w ∷ []) (Put w) (Contains-first (Put w) [])))
enabled_listed kids machine (Take w) after s =
    let (first, others, e) = snoc-cons s.rest s.label in
    own-listed machine w s.worker (Take w) s.at
    (own-at w s.worker (steals machine.workers w) None [] (first ∷ others) (Take w) s.pending s.stack (s.deque ∙ e) (Contains-first (Take w) (steals machine.workers w)))
enabled_listed kids machine (Steal w from) after s = own-listed machine w s.worker (Steal w from) s.at
    (own-at w s.worker (steals machine.workers w) None [] s.worker.deque (Steal w from) s.pending s.stack refl
    (Contains-append_right (where_any s.worker.deque (Take w)) (steals machine.workers w) (Steal w from) (steals-held machine.workers w from s.victim s.label s.rest s.at_victim s.other s.deque)))

first-cut : {X Y : Type 0} (f : X → List Y) (x : X) (xs : List X) (y : Y) (ys : List Y) → f x ≡ ys → (slice_get (flat_map f xs) 0 ≡ Some y → (z : X) × (slice_get (f z) 0 ≡ Some y))
    → slice_get (ys ++ flat_map f xs) 0 ≡ Some y → (z : X) × (slice_get (f z) 0 ≡ Some y)
first-cut f x xs y [] e later is = later is
first-cut f x xs y (first ∷ ys) e later is = (x, ap (λ l. slice_get l 0) e ∙ is)

first-part : {X Y : Type 0} (f : X → List Y) (xs : List X) (y : Y) → slice_get (flat_map f xs) 0 ≡ Some y → (x : X) × (slice_get (f x) 0 ≡ Some y)
first-part f [] y is = absurd (cc)
first-part f (x ∷ xs) y is = first-cut f x xs y (f x) refl (λ later. first-part f xs y later) is

own-first : (workers : List Load) (w : ℕ) (pending : Option (List ℕ)) (stack deque : List (List ℕ)) (event : Event) → slice_get (own_events w pending stack deque (steals workers w)) 0 ≡ Some event → extra event ≡ 0
own-first workers w (Some label) stack deque event is = let same : Post w ≡ event = cc in ap extra (sym same)
own-first workers w None (label ∷ stack) deque event is = let same : Grow w ≡ event = cc in ap extra (sym same)
own-first workers w None [] (label ∷ deque) event is = let same : Take w ≡ event = cc in ap extra (sym same)
own-first workers w None [] [] event is =
    let (v, victim, label, rest, same, other, at, full) = steals-cases workers w event (get-held (steals workers w) 0 event is) in ap extra same

worker-first : (workers : List Load) (w : ℕ) (found : Option Load) (event : Event) → slice_get (events_of workers w found) 0 ≡ Some event → extra event ≡ 0
worker-first workers w None event is = absurd (cc)
worker-first workers w (Some worker) event is = own-first workers w worker.pending worker.stack worker.deque event is

pub first_no_put : (machine : State) (event : Event) → slice_get (enabled machine) 0 ≡ Some event → extra event ≡ 0
first_no_put machine event is =
    let (w, first) = first-part (λ w. events_of machine.workers w (slice_get machine.workers w)) (range_with_len 0 (length machine.workers)) event is in
    worker-first machine.workers w (slice_get machine.workers w) event first

pub quiet_from_none : (kids : List ℕ → List (List ℕ)) (machine : State) → enabled machine ≡ [] → IsQuiet kids machine
quiet_from_none kids machine none event (after, s) = Contains-none event (subst (λ (l : List Event). Contains l event) none (enabled_listed kids machine event after s))

extra-most : (event : Event) → extra event ≤ 2
extra-most (Post w) = omega arith
extra-most (Grow w) = omega arith
extra-most (Put w) = omega arith
extra-most (Take w) = omega arith
extra-most (Steal w from) = omega arith

pub choice-less : (tree : List (List ℕ)) (kids : List ℕ → List (List ℕ)) (choices : List ℕ) (event : Event) (before after : State)
    → Picks (enabled before) (first_choice choices) event → Step kids event before after → IsWithin tree after
    → to_do tree (later_choices choices) after < to_do tree choices before
choice-less tree kids [] event before after picked s within =
    let some : 0 % length (enabled before) < length (enabled before) = slice_get_within (enabled before) (0 % length (enabled before)) event picked in
    let first : 0 % length (enabled before) ≡ 0 = mod-eq_of_lt (omega arith) in
    let no_put : extra event ≡ 0 = first_no_put before event (ap (λ i. slice_get (enabled before) i) (sym first) ∙ picked) in
    omega (arith, step-less tree kids event before after s within)
choice-less tree kids (choice ∷ choices) event before after picked s within =
    omega (arith, step-less tree kids event before after s within, extra-most event)

-- an event is picked where one is enabled
picks-one : (events : List Event) (choice : ℕ) → (events ≡ []) ⊎ ((event : Event) × Picks events choice event)
picks-one [] choice = inl refl
picks-one (event ∷ events) choice = inr (get-some (event ∷ events) (choice % length (event ∷ events)) (mod-lt choice (omega arith)))

-- where the tree has a cover, each schedule ends
schedule-ends-below : (tree roots : List (List ℕ)) (kids : List ℕ → List (List ℕ)) → Covers roots kids tree
    → (n : ℕ) (choices : List ℕ) (machine : State) → IsBalanced roots kids machine → IsWithin tree machine → to_do tree choices machine < n
    → (events : List Event) × (last : State) × IsScheduled kids choices machine events last
schedule-ends-below tree roots kids covers zero choices machine balance within less = absurd (omega arith)
schedule-ends-below tree roots kids covers (suc n) choices machine balance within less = elim (picks-one (enabled machine) (first_choice choices)) [
  | inl none ↦ ([], machine, (none, refl))
  | inr one ↦
      let (event, picked) = one in
      let (next, step) = listed_enabled kids machine event (get-held (enabled machine) (first_choice choices % length (enabled machine)) event picked) in
      let inside : IsWithin tree next = step-within tree roots kids covers event machine next step balance within in
      let smaller : to_do tree (later_choices choices) next < to_do tree choices machine = choice-less tree kids choices event machine next picked step inside in
      let (events, last, later) = schedule-ends-below tree roots kids covers n (later_choices choices) next (step-balance roots kids event machine next step balance) inside (omega arith) in
      (event ∷ events, last, (next, picked, step, later))
]

pub schedule_ends : (tree roots : List (List ℕ)) (kids : List ℕ → List (List ℕ)) → Covers roots kids tree
    → (choices : List ℕ) (machine : State) → IsBalanced roots kids machine → IsWithin tree machine → (events : List Event) × (last : State) × IsScheduled kids choices machine events last
schedule_ends tree roots kids covers choices machine balance within =
    schedule-ends-below tree roots kids covers (suc (to_do tree choices machine)) choices machine balance within (omega arith)
