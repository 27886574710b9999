-- What the proofs keep of one worker: how its stage shows, and what it does with its nodes.
use Rattle.std.specs.Prelude.{◌≡◌, ℕ, ◌<◌, ◌==◌, Bool, not, Option, Some, None, List, [], ◌∷◌}
use Rattle.std.specs.Prelude.{◌++◌, map, length, All}
use Rattle.mine_model.specs.declared.row.Row.{Row}
use Rattle.pool_schedule.specs.declared.worker.Pending.{Pending}
use Rattle.pool_schedule.specs.declared.worker.Stage.{Stage}
use Rattle.pool_schedule.specs.declared.worker.Stage.TheVariants.{Pending as Posting, Busy, Free}
use Rattle.pool_schedule.specs.declared.worker.Worker.{Worker}

module _ {N : Type 0} where
  -- the worker has something in its stack and may go on with it
  abbrev pub IsBusy : Worker N → Type 0
  IsBusy worker = (worker.pending ≡ None) × (0 < length worker.stack.items)

  -- the worker has nothing to do
  abbrev pub IsFree : Worker N → Type 0
  IsFree worker = (worker.pending ≡ None) × (length worker.stack.items ≡ 0)

  -- the worker has a label to post
  abbrev pub IsPosting : Worker N → Type 0
  IsPosting worker = (pending : Pending) × (worker.pending ≡ Some pending)

  abbrev pub IsFilled : Worker N → Type 0
  IsFilled worker = 0 < length worker.deque.items

  abbrev pub IsAt : Worker N → Stage → Type 0
  IsAt worker Posting = IsPosting worker
  IsAt worker Busy = IsBusy worker
  IsAt worker Free = IsFree worker

  -- nothing is pending, and stack and deque are empty
  abbrev pub HasNothing : Worker N → Type 0
  HasNothing worker =
      (worker.pending ≡ None) × (length worker.stack.items ≡ 0) × (length worker.deque.items ≡ 0)

  abbrev pub is_filled : Worker N → Bool
  is_filled worker = not (length worker.deque.items == 0)

  -- how many events a worker has with this pending and in its stack, where that many deques hold something
  abbrev pub events_with : Option Pending → List N → ℕ → ℕ
  events_with (Some label) stack filled = 1
  events_with None (node ∷ stack) filled = 2
  events_with None [] filled = filled

  abbrev pub events_by : ℕ → Worker N → ℕ
  events_by filled worker = events_with worker.pending worker.stack.items filled

  -- the first node of the stack went to the back of the deque
  pub record PutsNode (before after : Worker N) : Type 0 where
    pub node : N
    pub stack : before.stack.items ≡ node ∷ after.stack.items
    pub deque : after.deque.items ≡ before.deque.items ++ node ∷ []
    pub pending : after.pending ≡ before.pending

  -- the last node of the deque came to the end of the stack
  pub record TakesNode (before after : Worker N) : Type 0 where
    pub node : N
    pub stack : after.stack.items ≡ before.stack.items ++ node ∷ []
    pub deque : before.deque.items ≡ after.deque.items ++ node ∷ []
    pub pending : after.pending ≡ before.pending

  -- the last node of the stack was grown
  pub record GrowsNode (label : N → List ℕ) (kids : List ℕ → List (List ℕ)) (row : List ℕ → Option Row)
      (IsOwn : N → Type 0) (before after : Worker N) : Type 0 where
    pub node : N
    pub rest : List N
    pub new : List N
    pub stack : before.stack.items ≡ rest ++ node ∷ []
    pub stack_after : after.stack.items ≡ rest ++ new
    pub labels : map label new ≡ kids (label node)
    pub own : All IsOwn new
    pub deque : after.deque.items ≡ before.deque.items
    pub pending : after.pending ≡ Some (record { label = label node; row = row (label node) })
