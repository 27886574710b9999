-- A table of slots, in which a search begins at its home and goes round all slots.
use Rattle.std.specs.Prelude.{ℕ, ◌≤◌, ◌<◌, ◌⊎◌}

-- a search that begins at home meets the slot before it meets the slot at the end
abbrev pub IsMet : ℕ → ℕ → ℕ → Type 0
IsMet home end at = ((home ≤ at) × (at < end)) ⊎ ((end < home) × ((home ≤ at) ⊎ (at < end)))
