-- Parts of a problem: the sequences that have a pattern under one bound. From the article on pivots.
use Rattle.std.specs.Prelude.{ℕ, ◌<◌, ◌≤◌, ◌↔◌, Option, Some, None, IfSome, [], length, AllPairs, Contains}
use Rattle.mine_model.specs.Growth.{HasPatternBehind}
use Rattle.mine_model.specs.Pivots.{IsWithinPivot}
use Rattle.mining_job.specs.declared.part_seed.PartSeed.{PartSeed}
use Rattle.mining_job.specs.Problems.{Problem, data_of, items_of}

-- the pivot of a label: 0 stands for none
abbrev pub pivot_of : Option ℕ → ℕ
pivot_of None = 0
pivot_of (Some rank) = rank

-- the seed has all sequences that have a pattern under its bound, and no others, by rising number
pub record IsComplete (problem : Problem) (seed : PartSeed) : Type 0 where
  pub least : IfSome seed.pivot (λ rank. 1 ≤ rank)
  pub most : IfSome seed.pivot (λ rank. rank ≤ length problem.ranking.order)
  pub rising : AllPairs (λ low high. low < high) seed.sequences.items
  pub exact : (i : ℕ) → Contains seed.sequences.items i ↔ ((i < length problem.sequences)
      × HasPatternBehind (data_of problem) (IsWithinPivot problem.ranking.order (pivot_of seed.pivot)) []
      (items_of problem i))
