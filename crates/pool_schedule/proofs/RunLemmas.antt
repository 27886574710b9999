-- What a loop over a schedule keeps.
use Rattle.std.proofs.Common.{◌≡◌, ℕ, ◌%◌, ◌<◌, ◌↔◌, Bool, List, [], length, sym, subst}
use Rattle.std.specs.Prelude.{IsTrue}
use Rattle.search_tree.specs.Cover.{Covers}
use Rattle.mine_model.proofs.ElementLemmas.{get-held}
use Rattle.pool_schedule.specs.State.{State, start, IsBalanced}
use Rattle.pool_schedule.specs.Steps.{Step, IsEnabled}
use Rattle.pool_schedule.specs.Schedule.{enabled, Picks, first_choice, later_choices, ArePosted}
use Rattle.pool_schedule.specs.declared.event.Event.{Event}
use Rattle.pool_schedule.proofs.Measure.{IsWithin, to_do}
use Rattle.pool_schedule.proofs.BalanceLemmas.{start-within, step-within, idle-covers}
use Rattle.pool_schedule.proofs.QuietLemmas.{idle_from_quiet}
use Rattle.pool_schedule.proofs.ScheduleLemmas.{listed_enabled, quiet_from_none, choice-less}
use Rattle.pool_schedule.proofs.OrderLemmas.{LeadsOn, leads_begin, leads_next, leads_end}

-- a picked event is done
pub picked_step : (kids : List ℕ → List (List ℕ)) (event : Event) (before after : State) (choice : ℕ) (done : Bool) → Picks (enabled before) choice event
    → (IsTrue done → Step kids event before after) → (IsTrue done ↔ IsEnabled kids event before) → Step kids event before after
picked_step kids event before after choice done picked is exact =
    is (exact.1 (listed_enabled kids before event (get-held (enabled before) (choice % length (enabled before)) event picked)))

-- the choice that was made is the first that was left
pub picks_first : (events : List Event) (choice : ℕ) (left : List ℕ) (event : Event) → choice ≡ first_choice left → Picks events choice event → Picks events (first_choice left) event
picks_first events choice left event same picked = subst (λ (c : ℕ). Picks events c event) same picked

pub begins_within : (tree roots : List (List ℕ)) (workers : ℕ) (now : State) → now ≡ start roots workers → IsWithin tree now
begins_within tree roots workers now is = subst (λ (s : State). IsWithin tree s) (sym is) (start-within tree roots workers)

pub begins_leading : (kids : List ℕ → List (List ℕ)) (choices : List ℕ) (first now : State) → now ≡ first → LeadsOn kids choices first choices now
begins_leading kids choices first now is = subst (λ (s : State). LeadsOn kids choices first choices s) (sym is) (leads_begin kids choices first)

pub goes_on : (kids : List ℕ → List (List ℕ)) (choices left later : List ℕ) (first now next : State) (event : Event) → later ≡ later_choices left
    → LeadsOn kids choices first left now → Picks (enabled now) (first_choice left) event → Step kids event now next → LeadsOn kids choices first later next
goes_on kids choices left later first now next event is leads picked step =
    subst (λ (l : List ℕ). LeadsOn kids choices first l next) (sym is) (leads_next kids choices left first now next event leads picked step)

pub less_to_do : (tree roots : List (List ℕ)) (kids : List ℕ → List (List ℕ)) (left later : List ℕ) (now next : State) (event : Event) → Covers roots kids tree → later ≡ later_choices left
    → Picks (enabled now) (first_choice left) event → Step kids event now next → IsBalanced roots kids now → IsWithin tree now → to_do tree later next < to_do tree left now
less_to_do tree roots kids left later now next event covers is picked step balance within =
    subst (λ (l : List ℕ). to_do tree l next < to_do tree left now) (sym is)
    (choice-less tree kids left event now next picked step (step-within tree roots kids covers event now next step balance within))

pub ends_posted : (roots : List (List ℕ)) (kids : List ℕ → List (List ℕ)) (workers : ℕ) (choices left : List ℕ) (now : State) (labels : List (List ℕ))
    → LeadsOn kids choices (start roots workers) left now → enabled now ≡ [] → now.posted ≡ labels → ArePosted roots kids workers choices labels
ends_posted roots kids workers choices left now labels leads none is =
    let (events, all) = leads_end kids choices left (start roots workers) now leads none in (events, now, all, is)

pub ends_covered : (roots : List (List ℕ)) (kids : List ℕ → List (List ℕ)) (now : State) (labels : List (List ℕ))
    → IsBalanced roots kids now → enabled now ≡ [] → now.posted ≡ labels → Covers roots kids labels
ends_covered roots kids now labels balance none is =
    subst (λ (l : List (List ℕ)). Covers roots kids l) is (idle-covers roots kids now balance (idle_from_quiet kids now (quiet_from_none kids now none)))
