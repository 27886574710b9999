-- What a seat gets, and what a worker keeps back.
use Rattle.std.specs.Prelude.{◌≡◌, ℕ, ◌<◌, true, Option, Some, None, List, [], ◌∷◌, ◌++◌, length, map, All}
use Rattle.mine_model.specs.Labels.{SameLabels}
use Rattle.node_pool.specs.Pool.{pool_of, seat_ground, is_dry, given, got}
use Rattle.node_pool.specs.declared.seat.Seat.{Seat}

module _ {T G : Type 0} where
  -- since its last task the seat found no task in any deque
  abbrev pub IsAllDry : Seat T G → Type 0
  IsAllDry seat = (k : ℕ) → k < length (pool_of seat) → is_dry seat k ≡ true

module _ {T G : Type 0} (ground_of : T → G) where
  -- the tasks belong to this
  abbrev pub AreTasksOf : G → List T → Type 0
  AreTasksOf home tasks = All (λ task. ground_of task ≡ home) tasks

module _ {T G : Type 0} (label_of : T → List ℕ) (ground_of : T → G) where
  -- the seat got this task
  abbrev pub GotTask : T → Seat T G → Seat T G → Type 0
  GotTask task seat later =
      (seat_ground seat ≡ Some (ground_of task)) × SameLabels (got later) (got seat ++ label_of task ∷ [])

  -- the seat found this task in a deque, or none in any
  abbrev pub HasFound : Option T → Seat T G → Seat T G → Type 0
  HasFound (Some task) seat later = GotTask task seat later
  HasFound None seat later = (got later ≡ got seat) × IsAllDry later
      × (length (pool_of later) ≡ 1 → SameLabels (given later) (got later))

  -- the task is the next: of the overflow, or what the seat got
  pub record IsNext (task : T) (seat later : Seat T G) (overflow rest : List T) : Type 0 where
    pub came : List (List ℕ)
    pub got_them : SameLabels (got later) (got seat ++ came)
    pub same : SameLabels (map label_of overflow ++ came) (label_of task ∷ map label_of rest)
    pub own : (home : G) → seat_ground seat ≡ Some home → AreTasksOf ground_of home overflow
        → (ground_of task ≡ home) × AreTasksOf ground_of home rest

  -- the next task, or none where the overflow is empty and no deque has one
  abbrev pub HasNext : Option T → Seat T G → Seat T G → List T → List T → Type 0
  HasNext (Some task) seat later overflow rest = IsNext task seat later overflow rest
  HasNext None seat later overflow rest = (overflow ≡ []) × (rest ≡ []) × HasFound None seat later
