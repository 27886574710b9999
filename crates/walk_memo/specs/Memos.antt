-- A memo of steps and joins: sets of states by their numbers, and the actions of the steps that are known.
use Rattle.std.specs.Prelude.{◌≡◌, ℕ, ◌+◌, ◌/◌, ◌^◌, ◌<◌, ◌≤◌, List, ◌++◌, length, slice_get, slice_range, Some}
use Rattle.walk_memo.specs.declared.action.Action.{Action}
use Rattle.walk_memo.specs.declared.step.Step.{Step}
use Rattle.walk_memo.specs.Moves.{MoveSets}
use Rattle.walk_memo.specs.Steps.{IsAfter, AreActions, IsJoin}

-- the rows of all states, the moves, the sets that have numbers, and actions, one step's behind another's
pub record MemoValue : Type 0 where
  pub rows : List ℕ
  pub moves : List MoveSets
  pub sets : List ℕ
  pub actions : List Action

-- the step from the set at the move, by the numbers of the memo
pub record IsStep (memo : MemoValue) (move : MoveSets) (set : ℕ) (step : Step) : Type 0 where
  pub after : ℕ
  pub numbered : slice_get memo.sets step.next ≡ Some after
  pub next : IsAfter memo.rows move set after
  pub ordered : step.first ≤ step.last
  pub within : step.last ≤ length memo.actions
  pub actions : AreActions memo.rows move set (slice_range memo.actions step.first step.last)

-- the number is that of the set with the state
pub record IsJoined (memo : MemoValue) (set state number : ℕ) : Type 0 where
  pub joined : ℕ
  pub numbered : slice_get memo.sets number ≡ Some joined
  pub join : IsJoin set state joined

-- how many cells and how many actions a memo is to hold
abbrev pub most_cells : ℕ
most_cells = 2 ^ 20

-- how many sets it is to hold: each has a cell for each move and each state, and one more is counted
abbrev pub most_sets : List ℕ → List MoveSets → ℕ
most_sets rows moves = most_cells / (length rows + length moves + 1)

-- there is room for one more set and for the actions of one more step
pub record HasRoom (memo : MemoValue) : Type 0 where
  pub sets : length memo.sets < most_sets memo.rows memo.moves
  pub actions : length memo.actions < most_cells

-- no set lost its number, and no action its place
pub record Keeps (before after : MemoValue) : Type 0 where
  pub sets : (more : List ℕ) × (after.sets ≡ before.sets ++ more)
  pub actions : (more : List Action) × (after.actions ≡ before.actions ++ more)

-- The memo after a call. Where it had no room, it may have been begun again: all sets but the empty one,
-- whose number stays 0, may then have lost their numbers.
pub record Follows (before after : MemoValue) : Type 0 where
  pub rows : after.rows ≡ before.rows
  pub moves : after.moves ≡ before.moves
  pub empty : slice_get after.sets 0 ≡ Some 0
  pub keeps : HasRoom before → Keeps before after
