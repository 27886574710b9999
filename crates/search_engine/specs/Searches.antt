-- A search by prefixes, and the tree that it walks.
use Rattle.std.specs.Prelude.{ℕ, ⊤, List, [], ◌∷◌, map, All}
use Rattle.search_tree.specs.SearchTree.{SearchTree}
use Rattle.mining_job.specs.declared.part_seed.PartSeed.{PartSeed}
use Rattle.mining_job.specs.Problems.{Problem, IsWhole}
use Rattle.mining_job.specs.Parts.{pivot_of, IsComplete}
use Rattle.dfs_growth.specs.Tree.{search_tree}
use Rattle.search_engine.specs.declared.search.Source.{Source}
use Rattle.search_engine.specs.declared.search.Source.TheVariants.{Whole, Seeds}

-- the problem, and the pivots of the roots, where 0 alone stands for a search without pivots
pub record Search : Type 0 where
  pub problem : Problem
  pub pivots : List ℕ

-- the tree that it walks
abbrev pub tree_of : Search → SearchTree
tree_of search = search_tree search.problem search.pivots

-- the pivots of the roots of the source
abbrev pub pivots_from : Source → List ℕ
pivots_from Whole = 0 ∷ []
pivots_from (Seeds seeds) = map (λ (seed : PartSeed). pivot_of seed.pivot) seeds.items

-- its seeds have all sequences of their pivots
abbrev pub AreComplete : Problem → Source → Type 0
AreComplete problem Whole = ⊤
AreComplete problem (Seeds seeds) = All (IsComplete problem) seeds.items

-- the problem is whole, and the seeds of the source are complete
pub record IsSeeded (problem : Problem) (source : Source) : Type 0 where
  pub whole : IsWhole problem
  pub complete : AreComplete problem source
