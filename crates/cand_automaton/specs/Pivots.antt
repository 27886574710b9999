-- What the parts of some pivots give together.
use Rattle.std.specs.Prelude.{◌≡◌, ◌≢◌, ℕ, ◌↔◌, Some, List, length, slice_get, AllPairs, Contains}
use Rattle.mine_model.specs.declared.item.Item.{Item}
use Rattle.mine_model.specs.declared.row.Row.{Row}
use Rattle.mine_model.specs.Answer.{Data, IsFrequent}
use Rattle.mine_model.specs.Numbered.{PatternsDiffer}
use Rattle.pivot_partition.specs.Pivots.{HasPivotIn}
use Rattle.automaton_model.specs.Work.{CodeOfPart, IsCounted}

-- the rows are the frequent patterns with these pivots, each once, in any order
pub record AreRowsOfPivots (d : Data Item) (order : List Item) (pivots : List ℕ) (rows : List Row)
    : Type 0 where
  pub once : PatternsDiffer rows
  pub exact : (row : Row) → Contains rows row
      ↔ (IsFrequent d row.pattern row.support × HasPivotIn order pivots row.pattern)

-- the count is that of the pairs of one of these pivots and a set of candidates with it
pub record AreSetsOfPivots (d : Data Item) (order : List Item) (pivots : List ℕ) (count : ℕ) : Type 0 where
  pub pairs : List CodeOfPart
  pub once : AllPairs (λ (first : CodeOfPart) second. first ≢ second) pairs
  pub exact : (pair : CodeOfPart) → Contains pairs pair
      ↔ (Contains pivots pair.pivot × IsCounted d order pair)
  pub counted : count ≡ length pairs

-- the rows and the count of sets are those of the pivots that stand at places of the list with the property
pub record AreFound (d : Data Item) (order : List Item) (pivots : List ℕ) (IsOwn : ℕ → Type 0)
    (rows : List Row) (sets : ℕ) : Type 0 where
  pub own : List ℕ
  pub exact : (pivot : ℕ) → Contains own pivot
      ↔ ((place : ℕ) × IsOwn place × (slice_get pivots place ≡ Some pivot))
  pub rows_are : AreRowsOfPivots d order own rows
  pub sets_are : AreSetsOfPivots d order own sets
