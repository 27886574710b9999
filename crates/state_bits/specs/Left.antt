-- What is left of a walk over the bits of words.
use Rattle.std.specs.Prelude.{ℕ, ◌+◌, ◌*◌, ◌/◌, ◌%◌, ◌^◌, ◌<◌, ◌≤◌, Bool, false, cond, nat_eq, nat_lt, List, filter, slice_index}
use Rattle.std.specs.Int.{bit_at}
use Rattle.std.specs.List.{range_with_len}

-- state q is still to come, where so many words were read and `rest` is left of the last of them
unfoldable pub is_left : List ℕ → ℕ → ℕ → ℕ → Bool
is_left words read rest q =
    cond (nat_lt (q / 64 + 1) read) false
    (nat_eq (bit_at (cond (nat_eq (q / 64 + 1) read) rest (slice_index words (q / 64))) (q % 64)) 1)

-- the states that are still to come, rising
unfoldable pub left : ℕ → List ℕ → ℕ → ℕ → List ℕ
left width words read rest = filter (is_left words read rest) (range_with_len 0 (64 * width))

-- a place in such a walk
pub record IsPlace (width read rest : ℕ) : Type 0 where
  pub within : read ≤ width
  pub fits : rest < 2 ^ 64
  pub begun : 0 < rest → 0 < read
  pub near : 0 < rest → read ≤ 2 ^ 26
