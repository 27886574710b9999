-- What a prefix still asks of a path.
use Rattle.std.specs.Prelude.{ℕ, Bool, true, false, ◌||◌, ◌==◌, Option, Some, None}

-- what is needed is seen with the rank
abbrev pub sees : Bool → Option ℕ → ℕ → Bool
sees seen None rank = true
sees seen (Some need) rank = seen || need == rank

-- a path that goes on need not write what is needed: where something is needed that was seen
abbrev pub goes : Bool → Option ℕ → Bool
goes seen None = false
goes seen (Some need) = seen
