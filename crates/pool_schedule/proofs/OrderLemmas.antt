-- The choices settle the schedule, and what a loop that runs it keeps.
use Rattle.std.proofs.Common.{◌≡◌, ℕ, ◌%◌, Some, None, List, [], ◌∷◌, ◌++◌, set, slice_get, length, refl, sym, ap, ◌∙◌, subst}
use Rattle.std.proofs.lemmas.List.{same_from_push}
use Rattle.pool_schedule.specs.State.{Load, State}
use Rattle.pool_schedule.specs.Steps.{Step}
use Rattle.pool_schedule.specs.declared.event.Event.{Event}
use Rattle.pool_schedule.specs.declared.event.Event.TheVariants.{Post, Grow, Put, Take, Steal}
use Rattle.pool_schedule.specs.Schedule.{enabled, Picks, first_choice, later_choices, IsScheduled}
use Rattle.mine_model.proofs.ElementLemmas.{same-some}

machine-same : (a b : State) → a.workers ≡ b.workers → a.posted ≡ b.posted → a ≡ b
machine-same a b w p = ap (λ (x : List Load). record { workers = x; posted = a.posted }) w ∙ ap (λ (x : List (List ℕ)). record { workers = b.workers; posted = x }) p

same-cons : (xs ys : List (List ℕ)) (x y : List ℕ) → x ∷ xs ≡ y ∷ ys → (xs ≡ ys) × (x ≡ y)
same-cons xs ys x y e = (cc, cc)

no-pick : (events : List Event) (choice : ℕ) (event : Event) → events ≡ [] → Picks events choice event → ⊥
no-pick [] choice event none picked = cc
no-pick (first ∷ events) choice event none picked = cc

pub step_settled : (kids : List ℕ → List (List ℕ)) (event : Event) (before a b : State) → Step kids event before a → Step kids event before b → a ≡ b
step_settled kids (Post w) before a b s t =
    let worker : s.worker ≡ t.worker = same-some s.worker t.worker (slice_get before.workers w) s.at t.at in
    let label : s.label ≡ t.label = same-some s.label t.label s.worker.pending s.pending (ap (λ (x : Load). x.pending) worker ∙ t.pending) in
    machine-same a b
    (s.workers ∙ ap (λ (x : Load). set before.workers w (record { deque = x.deque; stack = x.stack; pending = None })) worker ∙ sym t.workers)
    (s.posted ∙ ap (λ x. before.posted ++ x ∷ []) label ∙ sym t.posted)
step_settled kids (Grow w) before a b s t =
    let worker : s.worker ≡ t.worker = same-some s.worker t.worker (slice_get before.workers w) s.at t.at in
    let ends : (s.rest ≡ t.rest) × (s.label ≡ t.label) = same_from_push s.rest t.rest s.label t.label (sym s.stack ∙ ap (λ (x : Load). x.stack) worker ∙ t.stack) in
    machine-same a b
    (s.workers
    ∙ ap (λ (x : Load). set before.workers w (record { deque = x.deque; stack = s.rest ++ kids s.label; pending = Some s.label })) worker
    ∙ ap (λ x. set before.workers w (record { deque = t.worker.deque; stack = x ++ kids s.label; pending = Some s.label })) ends.0
    ∙ ap (λ x. set before.workers w (record { deque = t.worker.deque; stack = t.rest ++ kids x; pending = Some x })) ends.1
    ∙ sym t.workers)
    (s.posted ∙ sym t.posted)
step_settled kids (Put w) before a b s t =
    let worker : s.worker ≡ t.worker = same-some s.worker t.worker (slice_get before.workers w) s.at t.at in
    let ends : (s.rest ≡ t.rest) × (s.label ≡ t.label) = same-cons s.rest t.rest s.label t.label (sym s.stack ∙ ap (λ (x : Load). x.stack) worker ∙ t.stack) in
    machine-same a b
    (s.workers
    ∙ ap (λ (x : Load). set before.workers w (record { deque = x.deque ++ s.label ∷ []; stack = s.rest; pending = None })) worker
    ∙ ap (λ x. set before.workers w (record { deque = t.worker.deque ++ s.label ∷ []; stack = x; pending = None })) ends.0
    ∙ ap (λ x. set before.workers w (record { deque = t.worker.deque ++ x ∷ []; stack = t.rest; pending = None })) ends.1
    ∙ sym t.workers)
    (s.posted ∙ sym t.posted)
step_settled kids (Take w) before a b s t =
    let worker : s.worker ≡ t.worker = same-some s.worker t.worker (slice_get before.workers w) s.at t.at in
    let ends : (s.rest ≡ t.rest) × (s.label ≡ t.label) = same_from_push s.rest t.rest s.label t.label (sym s.deque ∙ ap (λ (x : Load). x.deque) worker ∙ t.deque) in
    machine-same a b
    (s.workers
    ∙ ap (λ x. set before.workers w (record { deque = x; stack = s.label ∷ []; pending = None })) ends.0
    ∙ ap (λ x. set before.workers w (record { deque = t.rest; stack = x ∷ []; pending = None })) ends.1
    ∙ sym t.workers)
    (s.posted ∙ sym t.posted)
step_settled kids (Steal w from) before a b s t =
    let worker : s.worker ≡ t.worker = same-some s.worker t.worker (slice_get before.workers w) s.at t.at in
    let victim : s.victim ≡ t.victim = same-some s.victim t.victim (slice_get before.workers from) s.at_victim t.at_victim in
    let ends : (s.rest ≡ t.rest) × (s.label ≡ t.label) = same-cons s.rest t.rest s.label t.label (sym s.deque ∙ ap (λ (x : Load). x.deque) victim ∙ t.deque) in
    machine-same a b
    (s.workers
    ∙ ap (λ (x : Load). set (set before.workers from (record { deque = s.rest; stack = x.stack; pending = x.pending })) w (record { deque = s.worker.deque; stack = s.label ∷ []; pending = None })) victim
    ∙ ap (λ (x : Load). set (set before.workers from (record { deque = s.rest; stack = t.victim.stack; pending = t.victim.pending })) w (record { deque = x.deque; stack = s.label ∷ []; pending = None })) worker
    ∙ ap (λ x. set (set before.workers from (record { deque = x; stack = t.victim.stack; pending = t.victim.pending })) w (record { deque = t.worker.deque; stack = s.label ∷ []; pending = None })) ends.0
    ∙ ap (λ x. set (set before.workers from (record { deque = t.rest; stack = t.victim.stack; pending = t.victim.pending })) w (record { deque = t.worker.deque; stack = x ∷ []; pending = None })) ends.1
    ∙ sym t.workers)
    (s.posted ∙ sym t.posted)

-- the choices settle where the schedule ends
pub schedule_settled : (kids : List ℕ → List (List ℕ)) (choices : List ℕ) (a b : State) → a ≡ b → (events others : List Event) (last end : State)
    → IsScheduled kids choices a events last → IsScheduled kids choices b others end → (events ≡ others) × (last ≡ end)
schedule_settled kids choices a b same [] [] last end s t = (refl, s.1 ∙ same ∙ sym t.1)
schedule_settled kids choices a b same [] (event ∷ others) last end s t =
    let (next, picked, step, later) = t in absurd (no-pick (enabled b) (first_choice choices) event (ap (λ (m : State). enabled m) (sym same) ∙ s.0) picked)
schedule_settled kids choices a b same (event ∷ events) [] last end s t =
    let (next, picked, step, later) = s in absurd (no-pick (enabled a) (first_choice choices) event (ap (λ (m : State). enabled m) same ∙ t.0) picked)
schedule_settled kids choices a b same (event ∷ events) (other ∷ others) last end s t =
    let (next, picked, step, later) = s in
    let (next2, picked2, step2, later2) = t in
    let pick : Picks (enabled b) (first_choice choices) event = subst (λ (m : State). Picks (enabled m) (first_choice choices) event) same picked in
    let one : event ≡ other = same-some event other (slice_get (enabled b) (first_choice choices % length (enabled b))) pick picked2 in
    let moved : Step kids other b next = subst (λ (e : Event). Step kids e b next) one (subst (λ (m : State). Step kids event m next) same step) in
    let both : (events ≡ others) × (last ≡ end) = schedule_settled kids (later_choices choices) next next2 (step_settled kids other b next next2 moved step2) events others last end later later2 in
    (ap (λ e. e ∷ events) one ∙ ap (λ l. other ∷ l) both.0, both.1)

-- from here on the choices lead as from the start
abbrev pub LeadsOn : (List ℕ → List (List ℕ)) → List ℕ → State → List ℕ → State → Type 0
LeadsOn kids choices first left now =
    (events : List Event) (last : State) → IsScheduled kids left now events last → (all : List Event) × IsScheduled kids choices first all last

pub leads_begin : (kids : List ℕ → List (List ℕ)) (choices : List ℕ) (first : State) → LeadsOn kids choices first choices first
leads_begin kids choices first events last s = (events, s)

pub leads_next : (kids : List ℕ → List (List ℕ)) (choices left : List ℕ) (first now next : State) (event : Event)
    → LeadsOn kids choices first left now → Picks (enabled now) (first_choice left) event → Step kids event now next → LeadsOn kids choices first (later_choices left) next
leads_next kids choices left first now next event on picked step events last s = on (event ∷ events) last (next, picked, step, s)

pub leads_end : (kids : List ℕ → List (List ℕ)) (choices left : List ℕ) (first now : State) → LeadsOn kids choices first left now → enabled now ≡ [] → (all : List Event) × IsScheduled kids choices first all now
leads_end kids choices left first now on none = on [] now (none, refl)
