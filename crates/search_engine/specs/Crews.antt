-- What each worker is given, and what it gives back.
use Rattle.std.specs.Prelude.{◌≡◌, ℕ, Some, List, [], ◌∷◌, ◌++◌, map, All}
use Rattle.std.specs.List.{flat_map}
use Rattle.mine_model.specs.Labels.{SameLabels}
use Rattle.mining_job.specs.Problems.{Problem}
use Rattle.node_pool.specs.Pool.{seat_ground, given, got, SameSeat, IsWholePool}
use Rattle.node_pool.specs.declared.seat.Seat.{Seat}
use Rattle.turn_lock.specs.Passes.{IsPassOf, AreAllPasses, number, made, opened_with}
use Rattle.worker_threads.specs.Doing.{AreDone}
use Rattle.search_engine.specs.declared.worker.Worker.{Worker}
use Rattle.search_engine.specs.Seats.{AreTasksOf}
use Rattle.search_engine.specs.Workers.{BoardPass, BoardLock, IsRun, IsManned}

module _ {T G : Type 0} where
  -- the workers have these seats and passes, in order
  pub record AreWorkersOf (seats : List (Seat T G)) (passes : List BoardPass) (workers : List (Worker T G))
      : Type 0 where
    pub seats_are : map (λ (worker : Worker T G). worker.seat) workers ≡ seats
    pub passes_are : map (λ (worker : Worker T G). worker.pass) workers ≡ passes

  -- the worker has a seat for such tasks, and a pass of this board
  abbrev pub IsEquipped : G → BoardLock → Worker T G → Type 0
  IsEquipped home board worker = IsManned home board worker.seat worker.pass

  -- each seat and its pass are
  abbrev pub AreManned : G → BoardLock → List (Seat T G) → List BoardPass → Type 0
  AreManned home board [] [] = Unit {0}
  AreManned home board (seat ∷ seats) (pass ∷ passes) =
      IsManned home board seat pass × AreManned home board seats passes
  AreManned home board _ _ = ⊥

module _ {T G : Type 0} (kids : List ℕ → List (List ℕ)) (board : BoardLock) where
  -- the worker ran, and came back
  pub record IsDone (worker done : Worker T G) : Type 0 where
    pub same : SameSeat worker.seat done.seat
    pub pass_is : IsPassOf board done.pass
    pub number_is : number done.pass ≡ number worker.pass
    pub run : IsRun kids worker.seat done.seat worker.pass done.pass

  -- workers ran with these seats and passes, and came back with those
  pub record AreRuns (seats later : List (Seat T G)) (passes after : List BoardPass) : Type 0 where
    pub before : List (Worker T G)
    pub behind : List (Worker T G)
    pub given_are : AreWorkersOf seats passes before
    pub back_are : AreWorkersOf later after behind
    pub done : AreDone IsDone before behind

-- the seats of a pool of such tasks, into which roots were put, and the roots that were not
pub record AreOpened {T G : Type 0} (label_of : T → List ℕ) (ground_of : T → G) (home : G)
    (roots : List (List ℕ)) (seats : List (Seat T G)) (rest : List T) : Type 0 where
  pub whole : IsWholePool seats
  pub homes : All (λ seat. seat_ground seat ≡ Some home) seats
  pub put : List (List ℕ)
  pub given_is : SameLabels (flat_map given seats) put
  pub got_is : SameLabels (flat_map got seats) []
  pub roots_are : SameLabels roots (put ++ map label_of rest)
  pub own : AreTasksOf ground_of home rest

-- the lock over the board of this problem, and its passes, with which nothing was posted
pub record AreLocked (problem : Problem) (board : BoardLock) (passes : List BoardPass) (own : BoardPass)
    : Type 0 where
  pub problem_is : (opened_with board).problem ≡ problem
  pub all : AreAllPasses board (passes ++ own ∷ [])
  pub fresh : All (λ pass. made pass ≡ []) (passes ++ own ∷ [])
