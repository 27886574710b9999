-- What a prefix still asks of what is written behind it.
use Rattle.std.specs.Prelude.{ℕ, Bool, true, ◌||◌, ◌==◌, Option, Some, None}
use Rattle.stand_sums.specs.declared.aim.Aim.{Aim}

-- with the rank behind a prefix what is needed was seen
abbrev pub sees_with : Bool → Option ℕ → ℕ → Bool
sees_with seen None rank = true
sees_with seen (Some need) rank = seen || need == rank

abbrev pub sees : Aim → ℕ → Bool
sees aim rank = sees_with aim.seen aim.need rank
