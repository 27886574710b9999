-- The greatest ranks of the patterns of a sequence. From the article on pivots.
use Rattle.std.specs.Prelude.{◌≡◌, ℕ, ◌≤◌, ◌<◌, max, ◌↔◌, List, [], length, map, AllPairs, Contains}
use Rattle.mine_model.specs.declared.item.Item.{Item}
use Rattle.mine_model.specs.Growth.{HasPatternBehind}
use Rattle.mine_model.specs.Pivots.{IsWithinPivot}
use Rattle.mining_job.specs.declared.part_seed.PartSeed.{PartSeed}
use Rattle.mining_job.specs.Problems.{Problem, data_of}
use Rattle.mining_job.specs.Parts.{pivot_of}

-- the number is the greater of one of the first list and one of the second
abbrev pub IsGreaterOf : List ℕ → List ℕ → ℕ → Type 0
IsGreaterOf us vs w = (u : ℕ) × (v : ℕ) × Contains us u × Contains vs v × (w ≡ max u v)

-- the list has a number that is not greater
abbrev pub HasUpTo : List ℕ → ℕ → Type 0
HasUpTo us w = (u : ℕ) × Contains us u × (u ≤ w)

-- the rank is the greatest one of a pattern of frequent items
pub record IsPivotOf (problem : Problem) (items : List Item) (rank : ℕ) : Type 0 where
  pub least : 1 ≤ rank
  pub most : rank ≤ length problem.ranking.order
  pub behind : HasPatternBehind (data_of problem) (IsWithinPivot problem.ranking.order rank) [] items

-- the list has exactly the pivots, rising
pub record ArePivots (problem : Problem) (items : List Item) (pivots : List ℕ) : Type 0 where
  pub rising : AllPairs (λ low high. low < high) pivots
  pub exact : (rank : ℕ) → Contains pivots rank ↔ IsPivotOf problem items rank

-- the pivots of seeds, 0 for none
abbrev pub pivots_in : List PartSeed → List ℕ
pivots_in seeds = map (λ seed. pivot_of seed.pivot) seeds

-- the pivot of the items is one of these
abbrev pub HasPivotIn : List Item → List ℕ → List Item → Type 0
HasPivotIn order pivots items = (pivot : ℕ) × Contains pivots pivot × IsWithinPivot order pivot items
