-- The enabled events in their order, and the schedule that a list of choices picks.
use Rattle.std.specs.Prelude.{◌≡◌, ℕ, ◌%◌, cond, ◌==◌, Option, Some, None, List, [], ◌∷◌, ◌++◌}
use Rattle.std.specs.Prelude.{length, slice_get}
use Rattle.std.specs.List.{flat_map, range_with_len}
use Rattle.pool_schedule.specs.State.{Load, State, start}
use Rattle.pool_schedule.specs.Steps.{Step}
use Rattle.pool_schedule.specs.declared.event.Event.{Event}
use Rattle.pool_schedule.specs.declared.event.Event.TheVariants.{Put, Take, Steal, Grow, Post}

-- the words of the promise

-- the event, where there is a label for it
abbrev pub where_any : List (List ℕ) → Event → List Event
where_any [] event = []
where_any (label ∷ rest) event = event ∷ []

-- w's steal from the worker v
abbrev pub steal_from : ℕ → ℕ → Option Load → List Event
steal_from w v None = []
steal_from w v (Some victim) = cond (v == w) [] (where_any victim.deque (Steal w v))

-- w's steals, by victim
abbrev pub steals : List Load → ℕ → List Event
steals workers w = flat_map (λ v. steal_from w v (slice_get workers v)) (range_with_len 0 (length workers))

-- w's events, where it has this pending, in its stack and in its deque, and these are its steals
abbrev pub own_events : ℕ → Option (List ℕ) → List (List ℕ) → List (List ℕ) → List Event → List Event
own_events w (Some label) stack deque others = Post w ∷ []
own_events w None (label ∷ stack) deque others = Grow w ∷ Put w ∷ []
own_events w None [] deque others = where_any deque (Take w) ++ others

abbrev pub events_of : List Load → ℕ → Option Load → List Event
events_of workers w None = []
events_of workers w (Some worker) = own_events w worker.pending worker.stack worker.deque (steals workers w)

-- the enabled events, by worker
abbrev pub listed : List Load → List Event
listed workers = flat_map (λ w. events_of workers w (slice_get workers w)) (range_with_len 0 (length workers))

abbrev pub enabled : State → List Event
enabled state = listed state.workers

-- the choice modulo their number picks the event
abbrev pub Picks : List Event → ℕ → Event → Type 0
Picks events choice event = slice_get events (choice % length events) ≡ Some event

abbrev pub first_choice : List ℕ → ℕ
first_choice [] = 0
first_choice (choice ∷ choices) = choice

abbrev pub later_choices : List ℕ → List ℕ
later_choices [] = []
later_choices (choice ∷ choices) = choices

-- by the choices, and then always by the first event, the state goes through the events to the last state,
-- in which no event is enabled
abbrev pub IsScheduled : (List ℕ → List (List ℕ)) → List ℕ → State → List Event → State → Type 0
IsScheduled kids choices state [] last = (enabled state ≡ []) × (last ≡ state)
IsScheduled kids choices state (event ∷ events) last =
    (next : State) × Picks (enabled state) (first_choice choices) event × Step kids event state next
    × IsScheduled kids (later_choices choices) next events last

-- the labels that the schedule of so many workers posts, in its order
abbrev pub ArePosted : List (List ℕ) → (List ℕ → List (List ℕ)) → ℕ → List ℕ → List (List ℕ) → Type 0
ArePosted roots kids workers choices labels =
    (events : List Event) × (last : State) × IsScheduled kids choices (start roots workers) events last
    × (last.posted ≡ labels)
