-- Draws by a linear congruential generator. Its constants are this program's own.
use Rattle.std.specs.Prelude.{ℕ, ◌+◌, ◌*◌, ◌%◌, ◌^◌}

-- the state of the generator behind this one
abbrev pub next_state : ℕ → ℕ
next_state state = (6364136223846793005 * state + 1442695040888963407) % 2 ^ 64
