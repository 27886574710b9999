-- A set of states is seen as a number: bit q of it is 1 exactly where q is a member.
use Rattle.std.specs.Prelude.{◌≡◌, ℕ, zero, suc, ◌/◌, ◌%◌, ◌^◌, List, [], ◌∷◌, slice_index}
use Rattle.std.specs.Int.{bit_at}

-- q is a member of the set
unfoldable pub Has : ℕ → ℕ → Type 0
Has set q = bit_at set q ≡ 1

-- its first so many words, the lowest first
unfoldable pub words_of : ℕ → ℕ → List ℕ
words_of zero set = []
words_of (suc width) set = set % 2 ^ 64 ∷ words_of width (set / 2 ^ 64)

-- the words, the lowest states first, have the state's bit
abbrev pub HasBit : List ℕ → ℕ → Type 0
HasBit words state = bit_at (slice_index words (state / 64)) (state % 64) ≡ 1
