-- The choices of a simulated run, by a linear congruential generator. Their number is this program's own.
use Rattle.std.specs.Prelude.{ℕ, zero, suc, ◌/◌, ◌^◌, List, [], ◌∷◌}
use Rattle.mine_model.specs.Draws.{next_state}

-- so many choices from this state on: each is the upper 31 bits of the next state
unfoldable pub choices_from : ℕ → ℕ → List ℕ
choices_from zero state = []
choices_from (suc more) state = next_state state / 2 ^ 33 ∷ choices_from more (next_state state)

-- the choices of a run with this seed
abbrev pub choices_of : ℕ → List ℕ
choices_of seed = choices_from 4096 seed
