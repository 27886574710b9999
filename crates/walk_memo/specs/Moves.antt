-- Moves, as sets of states that are seen as numbers.
use Rattle.std.specs.Prelude.{ℕ}
use Rattle.walk_memo.specs.declared.movement.Move.{Move}

-- what a place does: states entered in silence, states into which an edge writes, states from which more can
-- be written behind the place, states from which it can be with what is needed, states that can end behind it
pub record MoveSets : Type 0 where
  pub silent : ℕ
  pub writes : ℕ
  pub more : ℕ
  pub unseen : ℕ
  pub ends : ℕ

-- the same, whatever the width of the sets
abbrev pub move_sets : {W : ℕ} → Move W → MoveSets
move_sets movement =
    record {
      silent = movement.silent;
      writes = movement.writes;
      more = movement.more;
      unseen = movement.unseen;
      ends = movement.ends;
    }
