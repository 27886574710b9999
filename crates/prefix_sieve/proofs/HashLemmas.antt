-- Hashes of lists, rank by rank.
use Rattle.std.proofs.Common.{◌≡◌, ℕ, List, [], ◌∷◌, ◌++◌, refl}
use Rattle.prefix_sieve.specs.Hashes.{mixed, mixed_all}

pub mixed_behind : (hash : ℕ) (list : List ℕ) (rank : ℕ) → mixed_all hash (list ++ rank ∷ []) ≡ mixed (mixed_all hash list) rank
mixed_behind hash [] rank = refl
mixed_behind hash (first ∷ list) rank = mixed_behind (mixed hash first) list rank
