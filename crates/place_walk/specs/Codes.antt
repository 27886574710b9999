-- Stands in four bytes.
use Rattle.std.specs.Prelude.{ℕ, ◌/◌, ◌%◌, ◌==◌, ◌<◌, ◌^◌}
use Rattle.place_walk.specs.declared.stand.Stand.{Stand}

-- the place in the upper 25 bits, the state in the next six, and then the mark
abbrev pub stand_of : ℕ → Stand
stand_of code = record { place = code / 128; state = code / 2 % 64; first = code % 2 == 1 }

pub record Fits (place state : ℕ) : Type 0 where
  pub near : place < 2 ^ 25
  pub low : state < 2 ^ 6
