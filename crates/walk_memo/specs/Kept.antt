-- What a memo keeps: each filled cell is right.
use Rattle.std.specs.Prelude.{◌≡◌, ℕ, ◌*◌, ◌<◌, ◌≤◌, List, length, slice_index, slice_get, Some}
use Rattle.state_bits.specs.Members.{Has}
use Rattle.walk_memo.specs.declared.cells.Cells.{Cells}
use Rattle.walk_memo.specs.declared.step.Step.{Step}
use Rattle.walk_memo.specs.Moves.{MoveSets}
use Rattle.walk_memo.specs.Cells.{HasCell}
use Rattle.walk_memo.specs.Memos.{MemoValue, IsStep, IsJoined, most_sets}

-- the step is that of the set and the move with these numbers
pub record IsStepAt (memo : MemoValue) (number of : ℕ) (step : Step) : Type 0 where
  pub set : ℕ
  pub numbered : slice_get memo.sets number ≡ Some set
  pub step_is : (move : MoveSets) → slice_get memo.moves of ≡ Some move → IsStep memo move set step

-- the joined number is that of the set with this number and the state
pub record IsJoinAt (memo : MemoValue) (number state joined : ℕ) : Type 0 where
  pub set : ℕ
  pub numbered : slice_get memo.sets number ≡ Some set
  pub join_is : IsJoined memo set state joined

-- the sets are of states that have rows, and the empty one is the first and no other
pub record AreSets (rows sets : List ℕ) : Type 0 where
  pub empty : slice_get sets 0 ≡ Some 0
  pub once : (number : ℕ) → slice_get sets number ≡ Some 0 → number ≡ 0
  pub within : (number set q : ℕ) → slice_get sets number ≡ Some set → Has set q → q < length rows

-- the rows lead to states that have rows, for which sets of so many words have room
pub record AreRows (width : ℕ) (rows : List ℕ) : Type 0 where
  pub room : length rows ≤ 64 * width
  pub closed : (from q : ℕ) → Has (slice_index rows from) q → q < length rows

pub record IsMemo (width : ℕ) (memo : MemoValue) (steps : Cells Step) (joins : Cells ℕ) (most : ℕ)
    : Type 0 where
  pub narrow : width ≤ 17
  pub rows_are : AreRows width memo.rows
  pub sets_are : AreSets memo.rows memo.sets
  pub move_columns : steps.columns ≡ length memo.moves
  pub state_columns : joins.columns ≡ length memo.rows
  pub steps_known : (number of : ℕ) (step : Step) → of < length memo.moves → HasCell steps number of step
      → IsStepAt memo number of step
  pub joins_known : (number state joined : ℕ) → state < length memo.rows → HasCell joins number state joined
      → IsJoinAt memo number state joined
  pub most_is : most ≡ most_sets memo.rows memo.moves
