-- A hash for each list of ranks, made from that of the list without its last rank.
use Rattle.std.specs.Prelude.{ℕ, List, [], ◌∷◌, bit_xor}
use Rattle.std.specs.Hash.FoldHasher.{folded_multiply}

-- the hash of no ranks
abbrev pub start : ℕ
start = 0x9e37_79b9_7f4a_7c15

-- the hash of the list with this rank behind it
unfoldable pub mixed : ℕ → ℕ → ℕ
mixed hash rank = folded_multiply (bit_xor hash rank) 0x2545_f491_4f6c_dd1d

abbrev pub mixed_all : ℕ → List ℕ → ℕ
mixed_all hash [] = hash
mixed_all hash (rank ∷ ranks) = mixed_all (mixed hash rank) ranks

abbrev pub hash_of : List ℕ → ℕ
hash_of ranks = mixed_all start ranks
