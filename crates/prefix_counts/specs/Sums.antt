-- The sums of lists of ranks.
use Rattle.std.specs.Prelude.{◌≡◌, ℕ, ◌+◌, Bool, IsTrue, Some, List, ◌++◌, slice_get, Contains}
use Rattle.pattern_counts.specs.Tally.{sum_in}
use Rattle.prefix_counts.specs.Prefixes.{Prefixes}

-- the sum of the list, 0 where it is not there
abbrev pub sum_of : Prefixes → List ℕ → ℕ
sum_of prefixes list = sum_in prefixes.lists prefixes.sums list

-- the number is that of the list, which had the weight added if it ends so, and no other had
pub record IsTaken (list : List ℕ) (ends : Bool) (weight place : ℕ) (before after : Prefixes) : Type 0 where
  pub number : slice_get after.lists place ≡ Some list
  pub kept : (more : List (List ℕ)) × (after.lists ≡ before.lists ++ more)
      × ((other : List ℕ) → Contains more other → other ≡ list)
  pub counted : IsTrue ends → sum_of after list ≡ sum_of before list + weight
  pub others : (other : List ℕ) → (other ≡ list → IsTrue ends → ⊥)
      → sum_of after other ≡ sum_of before other

-- The sum of each list is that of both together. Lists keep their numbers, and the lists of both are there
-- alone.
pub record AreJoined (mine theirs joined : Prefixes) : Type 0 where
  pub kept : (more : List (List ℕ)) × (joined.lists ≡ mine.lists ++ more)
      × ((list : List ℕ) → Contains more list → Contains theirs.lists list)
  pub held : (list : List ℕ) → Contains theirs.lists list → Contains joined.lists list
  pub added : (list : List ℕ) → sum_of joined list ≡ sum_of mine list + sum_of theirs list
