-- Texts that are cut at a byte.
use Rattle.std.specs.Prelude.{◌≡◌, ◌≢◌, ℕ, List, [], ◌∷◌}
use Rattle.std.specs.List.{AllByRecursion}

-- the byte is not among the bytes
abbrev pub IsWithout : ℕ → List ℕ → Type 0
IsWithout c bytes = AllByRecursion (λ b. b ≢ c) bytes

-- nothing, or something that begins with the byte
abbrev pub BeginsWith : ℕ → List ℕ → Type 0
BeginsWith c [] = Unit {0}
BeginsWith c (b ∷ bytes) = b ≡ c
