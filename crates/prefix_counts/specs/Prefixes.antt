-- Lists of ranks, each a prefix with one rank more, and for each the sum of its weights.
use Rattle.std.specs.Prelude.{◌≡◌, ℕ, List, [], ◌∷◌, Some, length, slice_get}
use Rattle.mine_model.specs.Names.{AreDistinct}

-- lists of ranks, and by the same numbers their sums
pub record Prefixes : Type 0 where
  pub lists : List (List ℕ)
  pub sums : List ℕ

-- the empty list alone
abbrev pub no_prefixes : Prefixes
no_prefixes = record { lists = [] ∷ []; sums = 0 ∷ [] }

-- the empty list is the first, with the sum 0, and each is there once and has a sum
pub record ArePrefixes (prefixes : Prefixes) : Type 0 where
  pub first : slice_get prefixes.lists 0 ≡ Some []
  pub nothing : slice_get prefixes.sums 0 ≡ Some 0
  pub distinct : AreDistinct prefixes.lists
  pub each : length prefixes.sums ≡ length prefixes.lists
