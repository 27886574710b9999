-- Counts of many members at once, digit by digit: a row of bits has a bit for each member.
use Rattle.std.specs.Prelude.{ℕ, ◌+◌, ◌*◌, ◌/◌, ◌%◌, Option, Some, None, List, slice_index}
use Rattle.std.specs.Int.{bit_at}
use Rattle.member_counts.specs.declared.digits.Digits.{Digits}
use Rattle.member_counts.specs.declared.low.Low.{Low}

-- the member's bit in a row of words, the lowest members first
abbrev pub bit_in : List ℕ → ℕ → ℕ
bit_in row q = bit_at (slice_index row (q / 64)) (q % 64)

-- its bit in a row, where there is one
abbrev pub bit_of : Option (List ℕ) → ℕ → ℕ
bit_of None q = 0
bit_of (Some row) q = bit_in row q

-- its digit
abbrev pub digit : {W : ℕ} → Digits W → ℕ → ℕ
digit digits q = bit_in digits.bits q + bit_of digits.waiting q

-- what its lowest three digits are worth
abbrev pub low_count : {W : ℕ} → Low W → ℕ → ℕ
low_count low q = bit_in low.ones q + 2 * bit_in low.twos q + 4 * bit_in low.fours q
