-- Lists of ranks, and for each the sum of its weights.
use Rattle.std.specs.Prelude.{◌≡◌, ◌≢◌, ℕ, ◌+◌, cond, nat_eq, List, [], ◌∷◌, length}
use Rattle.std.specs.Cmp.Lexicographic.{pointwise}
use Rattle.mine_model.specs.Names.{AreDistinct}

-- lists of ranks, and by the same numbers their sums
pub record Tally : Type 0 where
  pub lists : List (List ℕ)
  pub sums : List ℕ

abbrev pub no_lists : Tally
no_lists = record { lists = []; sums = [] }

-- each list is there once, and has a sum
pub record IsTally (tally : Tally) : Type 0 where
  pub distinct : AreDistinct tally.lists
  pub each : length tally.sums ≡ length tally.lists

abbrev pub sum_in : List (List ℕ) → List ℕ → List ℕ → ℕ
sum_in [] sums list = 0
sum_in (first ∷ lists) [] list = 0
sum_in (first ∷ lists) (sum ∷ sums) list = cond (pointwise nat_eq first list) sum (sum_in lists sums list)

-- the sum of the list, 0 where it is not there
abbrev pub sum_of : Tally → List ℕ → ℕ
sum_of tally list = sum_in tally.lists tally.sums list

-- the sum of the list is more by the weight, and no other sum is changed
pub record Adds (list : List ℕ) (weight : ℕ) (old new : Tally) : Type 0 where
  pub here : sum_of new list ≡ sum_of old list + weight
  pub others : (other : List ℕ) → other ≢ list → sum_of new other ≡ sum_of old other

-- the sum of each list is the sum of both
abbrev pub AddsAll : Tally → Tally → Tally → Type 0
AddsAll added old new = (list : List ℕ) → sum_of new list ≡ sum_of old list + sum_of added list
