-- Flags as bits of words.
use Rattle.std.specs.Prelude.{ℕ, ◌*◌, ◌/◌, ◌%◌, ◌==◌, Bool, List, length, map, slice_index_or}
use Rattle.std.specs.Int.{bit_at}
use Rattle.std.specs.List.{range_with_len}

abbrev pub has_bit : ℕ → ℕ → Bool
has_bit word at = bit_at word at == 1

-- 64 flags a word, the lowest bits first
abbrev pub flags_in : List ℕ → List Bool
flags_in words =
    map (λ at. has_bit (slice_index_or words (at / 64) 0) (at % 64)) (range_with_len 0 (64 * length words))
