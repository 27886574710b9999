-- Room in which paths are found.
use Rattle.std.specs.Prelude.{ℕ, ◌+◌, ◌*◌, ◌≤◌, ◌<◌, List, length, vec_capacity, All}
use Rattle.mine_model.specs.declared.row.Row.{Row}
use Rattle.mining_job.specs.Problems.{Problem, items_of}
use Rattle.pattern_proof.specs.declared.finding.PathRoom.{PathRoom}

-- there is room for a path over so many items that writes so many, of a transducer with so many states
pub record HasRoom (room : PathRoom) (states items pattern : ℕ) : Type 0 where
  pub table : pattern ≤ items → (items + 1) * (pattern + 1) * states < 64 * vec_capacity room.table
  pub deep : items ≤ vec_capacity room.states

-- there is room for a path over each sequence that writes the pattern of any of the rows
abbrev pub HasRoomForAll : PathRoom → Problem → List Row → Type 0
HasRoomForAll room problem rows =
    All (λ row. (place : ℕ) → place < length problem.sequences
    → HasRoom room (length problem.transducer.labels + 1) (length (items_of problem place))
    (length row.pattern)) rows
