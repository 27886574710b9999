-- The words of a set, the lowest first.
use Rattle.std.specs.Prelude.{◌≡◌, ℕ, ◌+◌, ◌*◌, ◌^◌, ◌<◌, ◌≤◌, List, [], ◌∷◌, length, slice_index}

-- the number that the words are
unfoldable pub joined : List ℕ → ℕ
joined [] = 0
joined (word ∷ words) = joined words * 2 ^ 64 + word

-- so many words, of which those hold nothing whose states would have no number of 32 bits
pub record AreWords (width : ℕ) (words : List ℕ) : Type 0 where
  pub long : length words ≡ width
  pub fit : (k : ℕ) → slice_index words k < 2 ^ 64
  pub far_empty : (k : ℕ) → 2 ^ 26 ≤ k → slice_index words k ≡ 0
