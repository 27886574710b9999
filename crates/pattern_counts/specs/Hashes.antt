-- Hashes of lists: a product for each two ranks.
use Rattle.std.specs.Prelude.{ℕ, ◌+◌, ◌*◌, ◌%◌, List, [], ◌∷◌, bit_xor}
use Rattle.std.specs.Hash.FoldHasher.{folded_multiply}

-- the hash with one more word
unfoldable pub mixed : ℕ → ℕ → ℕ
mixed hash word = folded_multiply (bit_xor hash word) 0x2545_f491_4f6c_dd1d

-- with two ranks a word
abbrev pub mixed_all : ℕ → List ℕ → ℕ
mixed_all hash [] = hash
mixed_all hash (last ∷ []) = mixed hash last
mixed_all hash (first ∷ second ∷ ranks) = mixed_all (mixed hash (first + second * 4294967296)) ranks

unfoldable pub hash_of : List ℕ → ℕ
hash_of list = mixed_all 0x9e37_79b9_7f4a_7c15 list % 4294967296
