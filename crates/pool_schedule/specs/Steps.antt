-- What each event of the schedule machine does. It is enabled where it can be done.
use Rattle.std.specs.Prelude.{◌≡◌, ◌≢◌, ℕ, Some, None, List, [], ◌∷◌, ◌++◌, set}
use Rattle.std.specs.List.{slice_get}
use Rattle.pool_schedule.specs.State.{Load, State}
use Rattle.pool_schedule.specs.declared.event.Event.{Event}
use Rattle.pool_schedule.specs.declared.event.Event.TheVariants.{Put, Take, Steal, Grow, Post}

-- the words of the promise

-- the worker's pending label is posted
pub record Posts (w : ℕ) (before after : State) : Type 0 where
  pub worker : Load
  pub label : List ℕ
  pub at : slice_get before.workers w ≡ Some worker
  pub pending : worker.pending ≡ Some label
  pub workers : after.workers ≡ set before.workers w (record worker { pending = None })
  pub posted : after.posted ≡ before.posted ++ label ∷ []

-- the last label of the worker's stack is pending, and its kids come to the stack
pub record Grows (kids : List ℕ → List (List ℕ)) (w : ℕ) (before after : State) : Type 0 where
  pub worker : Load
  pub rest : List (List ℕ)
  pub label : List ℕ
  pub at : slice_get before.workers w ≡ Some worker
  pub pending : worker.pending ≡ None
  pub stack : worker.stack ≡ rest ++ label ∷ []
  pub workers : after.workers
      ≡ set before.workers w
      (record { deque = worker.deque; stack = rest ++ kids label; pending = Some label })
  pub posted : after.posted ≡ before.posted

-- the first label of the worker's stack goes to the back of its deque
pub record Puts (w : ℕ) (before after : State) : Type 0 where
  pub worker : Load
  pub rest : List (List ℕ)
  pub label : List ℕ
  pub at : slice_get before.workers w ≡ Some worker
  pub pending : worker.pending ≡ None
  pub stack : worker.stack ≡ label ∷ rest
  pub workers : after.workers
      ≡ set before.workers w (record { deque = worker.deque ++ label ∷ []; stack = rest; pending = None })
  pub posted : after.posted ≡ before.posted

-- the last label of the worker's deque comes to its empty stack
pub record Takes (w : ℕ) (before after : State) : Type 0 where
  pub worker : Load
  pub rest : List (List ℕ)
  pub label : List ℕ
  pub at : slice_get before.workers w ≡ Some worker
  pub pending : worker.pending ≡ None
  pub stack : worker.stack ≡ []
  pub deque : worker.deque ≡ rest ++ label ∷ []
  pub workers : after.workers
      ≡ set before.workers w (record { deque = rest; stack = label ∷ []; pending = None })
  pub posted : after.posted ≡ before.posted

-- the first label of another worker's deque comes to the worker's empty stack
pub record Steals (w from : ℕ) (before after : State) : Type 0 where
  pub worker : Load
  pub victim : Load
  pub rest : List (List ℕ)
  pub label : List ℕ
  pub other : from ≢ w
  pub at : slice_get before.workers w ≡ Some worker
  pub at_victim : slice_get before.workers from ≡ Some victim
  pub pending : worker.pending ≡ None
  pub stack : worker.stack ≡ []
  pub deque : victim.deque ≡ label ∷ rest
  pub workers : after.workers
      ≡ set (set before.workers from (record victim { deque = rest })) w
      (record { deque = worker.deque; stack = label ∷ []; pending = None })
  pub posted : after.posted ≡ before.posted

abbrev pub Step : (List ℕ → List (List ℕ)) → Event → State → State → Type 0
Step kids (Post w) before after = Posts w before after
Step kids (Grow w) before after = Grows kids w before after
Step kids (Put w) before after = Puts w before after
Step kids (Take w) before after = Takes w before after
Step kids (Steal w from) before after = Steals w from before after

abbrev pub IsEnabled : (List ℕ → List (List ℕ)) → Event → State → Type 0
IsEnabled kids event state = (after : State) × Step kids event state after

-- no event is enabled
abbrev pub IsQuiet : (List ℕ → List (List ℕ)) → State → Type 0
IsQuiet kids state = (event : Event) → IsEnabled kids event state → ⊥

-- the events follow one another from the first state to the last
abbrev pub Runs : (List ℕ → List (List ℕ)) → State → List Event → State → Type 0
Runs kids first [] last = last ≡ first
Runs kids first (event ∷ events) last =
    (next : State) × Step kids event first next × Runs kids next events last
