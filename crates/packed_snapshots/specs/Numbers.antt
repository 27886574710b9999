-- Numbers as bytes, seven bits a byte, the least first (LEB128).
use Rattle.std.specs.Prelude.{◌≡◌, ◌≢◌, ℕ, ◌+◌, ◌*◌, ◌%◌, ◌<◌, ◌≤◌, ◌^◌, nat_lt, if◌then◌else◌, List, [], ◌∷◌, ◌++◌, All}

-- what bytes are worth
abbrev pub worth : List ℕ → ℕ
worth [] = 0
worth (byte ∷ more) = byte % 128 + 128 * worth more

-- the byte has its top bit set
pub record IsContinued (byte : ℕ) : Type 0 where
  pub set : 128 ≤ byte
  pub fits : byte < 256

-- the bytes of a number: each but the last has its top bit set, and the last is 0 only where it is alone
pub record IsNumber (number : ℕ) (bytes : List ℕ) : Type 0 where
  pub front : List ℕ
  pub last : ℕ
  pub joined : bytes ≡ front ++ last ∷ []
  pub continued : All IsContinued front
  pub ended : last < 128
  pub shortest : front ≢ [] → 0 < last
  pub exact : number ≡ worth bytes

-- the bytes of numbers, one behind another
abbrev pub AreNumbers : List ℕ → List ℕ → Type 0
AreNumbers [] bytes = bytes ≡ []
AreNumbers (number ∷ more) bytes = (own : List ℕ) × (rest : List ℕ)
    × IsNumber number own × AreNumbers more rest × (bytes ≡ own ++ rest)

-- how many bytes a number takes at most
abbrev pub most_bytes : ℕ → ℕ
most_bytes number = if nat_lt number (2 ^ 21) then 3 else 5
