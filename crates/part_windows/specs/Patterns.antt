-- The patterns of a sequence within a bound. The bound of a pivot is from the article on pivots.
use Rattle.std.specs.Prelude.{◌↔◌, List}
use Rattle.mine_model.specs.declared.item.Item.{Item}
use Rattle.mine_model.specs.Generation.{IsPatternOf}
use Rattle.mine_model.specs.Numbered.{tree_of}
use Rattle.mine_model.specs.Pivots.{IsWithin}
use Rattle.mining_job.specs.declared.bound.Bound.{Bound}
use Rattle.mining_job.specs.Problems.{Problem}

-- its items have ranks that the bound allows, and what is needed is among them
abbrev pub IsWithinBound : Problem → Bound → List Item → Type 0
IsWithinBound problem bound pattern = IsWithin problem.ranking.order bound.top bound.need pattern

-- a pattern of the sequence within the bound
pub record IsPatternWithin (problem : Problem) (bound : Bound) (items pattern : List Item) : Type 0 where
  pub generated : IsPatternOf problem.hierarchy.links (tree_of problem.transducer.expression) items pattern
  pub within : IsWithinBound problem bound pattern

-- the sequences have the same patterns within the bound
abbrev pub HaveSamePatterns : Problem → Bound → List Item → List Item → Type 0
HaveSamePatterns problem bound items others =
    (pattern : List Item)
    → IsPatternWithin problem bound items pattern ↔ IsPatternWithin problem bound others pattern
