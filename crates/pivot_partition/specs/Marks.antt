-- Ranks that are found once each: those that are found have a mark.
use Rattle.std.specs.Prelude.{◌≡◌, ◌≢◌, ℕ, ◌↔◌, Bool, true, false, List, AllPairs, Contains}
use Rattle.std.specs.List.{slice_index_or}

-- the rank has a mark
abbrev pub IsMarked : List Bool → ℕ → Type 0
IsMarked marks rank = slice_index_or marks rank false ≡ true

-- exactly those that are found have a mark, and each is found once
pub record AreMarked (marks : List Bool) (found : List ℕ) : Type 0 where
  pub exact : (rank : ℕ) → Contains found rank ↔ IsMarked marks rank
  pub once : AllPairs (λ one other. one ≢ other) found
