-- What a contract sees of a machine of the program.
use Rattle.std.specs.Prelude.{◌≡◌, ◌≢◌, ℕ, Option, Some, None, List, [], ◌∷◌, ◌++◌}
use Rattle.std.specs.Prelude.{map, set, slice_get, All, IfSome}
use Rattle.std.specs.List.{filter_map}
use Rattle.std.specs.Option.{option_map, option_to_list}
use Rattle.mine_model.specs.declared.row.Row.{Row}
use Rattle.pool_schedule.specs.State.{Load, State}
use Rattle.pool_schedule.specs.declared.event.Event.{Event}
use Rattle.pool_schedule.specs.declared.event.Event.TheVariants.{Put, Take, Steal, Grow, Post}
use Rattle.pool_schedule.specs.declared.machine.Machine.{Machine}
use Rattle.pool_schedule.specs.declared.worker.Pending.{Pending}
use Rattle.pool_schedule.specs.declared.worker.Worker.{Worker}
use Rattle.pool_schedule.specs.Worker.{IsPosting, IsBusy, IsFree, IsFilled}

module _ {N : Type 0} where
  -- the words of the promise

  -- what the worker has, where each node has this label
  abbrev pub load : (N → List ℕ) → Worker N → Load
  load label worker = record {
    deque = map label worker.deque.items;
    stack = map label worker.stack.items;
    pending = option_map (λ (pending : Pending). pending.label) worker.pending;
  }

  -- the machine, where each node has this label
  abbrev pub seen : (N → List ℕ) → Machine N → State
  seen label machine =
      record { workers = map (load label) machine.workers.items; posted = machine.posted.labels }

  -- all nodes that the workers have are own ones
  abbrev pub AllOwn : (N → Type 0) → List (Worker N) → Type 0
  AllOwn IsOwn workers =
      All (λ (worker : Worker N). All IsOwn worker.deque.items × All IsOwn worker.stack.items) workers

  -- all nodes of the machine are own ones
  abbrev pub IsOwned : (N → Type 0) → Machine N → Type 0
  IsOwned IsOwn machine = AllOwn IsOwn machine.workers.items

  -- each pending label has its row
  abbrev pub PendingRows : (List ℕ → Option Row) → List (Worker N) → Type 0
  PendingRows row workers =
      All (λ (worker : Worker N). IfSome worker.pending (λ (p : Pending). p.row ≡ row p.label)) workers

  -- the rows are those of the posted labels, and each pending label has its row
  pub record HasRows (row : List ℕ → Option Row) (machine : Machine N) : Type 0 where
    pub posted : machine.posted.rows.items ≡ filter_map row machine.posted.labels
    pub pending : PendingRows row machine.workers.items

  -- what the proofs keep

  -- the event is enabled, as the workers' own lists show it
  abbrev pub MayStep : Event → List (Worker N) → Type 0
  MayStep (Post w) workers =
      (worker : Worker N) × (slice_get workers w ≡ Some worker) × IsPosting worker
  MayStep (Grow w) workers =
      (worker : Worker N) × (slice_get workers w ≡ Some worker) × IsBusy worker
  MayStep (Put w) workers =
      (worker : Worker N) × (slice_get workers w ≡ Some worker) × IsBusy worker
  MayStep (Take w) workers =
      (worker : Worker N) × (slice_get workers w ≡ Some worker) × IsFree worker × IsFilled worker
  MayStep (Steal w from) workers =
      (worker victim : Worker N) × (slice_get workers w ≡ Some worker)
      × (slice_get workers from ≡ Some victim) × (from ≢ w) × IsFree worker × IsFilled victim

  -- the worker's pending label is posted with its row
  pub record PostsNode (w : ℕ) (before after : Machine N) : Type 0 where
    pub worker : Worker N
    pub pending : Pending
    pub at : slice_get before.workers.items w ≡ Some worker
    pub is : worker.pending ≡ Some pending
    pub workers : after.workers.items ≡ set before.workers.items w (record worker { pending = None })
    pub labels : after.posted.labels ≡ before.posted.labels ++ pending.label ∷ []
    pub rows : after.posted.rows.items ≡ before.posted.rows.items ++ option_to_list pending.row

  -- the first node of the one deque has come to the other stack
  pub record StealsNode (w from : ℕ) (before after : Machine N) : Type 0 where
    pub worker : Worker N
    pub victim : Worker N
    pub thief : Worker N
    pub robbed : Worker N
    pub node : N
    pub at : slice_get before.workers.items w ≡ Some worker
    pub at_victim : slice_get before.workers.items from ≡ Some victim
    pub workers : after.workers.items ≡ set (set before.workers.items from robbed) w thief
    pub posted : after.posted ≡ before.posted
    pub lost : victim.deque.items ≡ node ∷ robbed.deque.items
    pub kept : (robbed.stack.items ≡ victim.stack.items) × (robbed.pending ≡ victim.pending)
    pub got : thief.stack.items ≡ worker.stack.items ++ node ∷ []
    pub same : (thief.deque.items ≡ worker.deque.items) × (thief.pending ≡ worker.pending)
