-- What a worker of a search does with the nodes that it comes by.
use Rattle.std.specs.Prelude.{◌≡◌, ℕ, ◌≤◌, Option, Some, List, ◌++◌, length}
use Rattle.mine_model.specs.declared.row.Row.{Row}
use Rattle.search_tree.specs.Cover.{Shift, IsEven}
use Rattle.mine_model.specs.Labels.{SameLabels}
use Rattle.mining_job.specs.Problems.{Problem}
use Rattle.node_pool.specs.Pool.{seat_ground, given, got}
use Rattle.node_pool.specs.declared.seat.Seat.{Seat}
use Rattle.turn_lock.specs.Passes.{IsPassOf, made, opened_with}
use Rattle.turn_lock.specs.declared.lock.Pass.{Pass}
use Rattle.turn_lock.specs.declared.lock.TurnLock.{TurnLock}
use Rattle.result_board.specs.Board.{BoardRows, HasRow}

abbrev pub BoardPass : Type 0
BoardPass = Pass BoardRows

abbrev pub BoardLock : Type 0
BoardLock = TurnLock BoardRows Problem

-- between these moments of its seat and its pass the worker posted, put and got these labels
pub record IsShift {T G : Type 0} (seat later : Seat T G) (pass after : BoardPass) (shift : Shift)
    : Type 0 where
  pub posted : made after ≡ made pass ++ shift.made
  pub put : given later ≡ given seat ++ shift.given
  pub taken : SameLabels (got later) (got seat ++ shift.got)

-- A worker's whole run. Posted and put is what was got and the kids of what was posted, each label as often:
-- the worker lost nothing that it held, and posted nothing that it did not hold.
pub record IsRun {T G : Type 0} (kids : List ℕ → List (List ℕ)) (seat later : Seat T G)
    (pass after : BoardPass) : Type 0 where
  pub shift : Shift
  pub is_shift : IsShift seat later pass after shift
  pub even : IsEven kids shift

-- the nodes of a search are tasks: by the same labels, none of them empty, and those that belong to this are
-- its own
pub record AreTasks {T G : Type 0} (label_of task_label : T → List ℕ) (IsOwn : T → Type 0) (ground_of : T → G)
    (home : G) : Type 0 where
  pub label : (node : T) → label_of node ≡ task_label node
  pub long : (node : T) → 1 ≤ length (task_label node)
  pub own : (node : T) → ground_of node ≡ home → IsOwn node
  pub task : (node : T) → IsOwn node → ground_of node ≡ home

-- the board is one on which the labels have these rows
abbrev pub IsBoardOf : (List ℕ → Option Row) → BoardLock → Type 0
IsBoardOf row board =
    (label : List ℕ) → 1 ≤ length label → HasRow (opened_with board).problem label (row label)

-- the seat is for such tasks, and the pass is one of the board's
pub record IsManned {T G : Type 0} (home : G) (board : BoardLock) (seat : Seat T G) (pass : BoardPass)
    : Type 0 where
  pub seat_is : seat_ground seat ≡ Some home
  pub pass_is : IsPassOf board pass
