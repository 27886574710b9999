-- Nodes of the search tree.
use Rattle.std.specs.Prelude.{ℕ, Option, List, [], ◌∷◌, ◌++◌}
use Rattle.mine_model.specs.declared.row.Row.{Row}
use Rattle.mine_model.specs.Pivots.{label_of}
use Rattle.search_tree.specs.SearchTree.{IsRowOf, AreKids}
use Rattle.mining_job.specs.Problems.{Problem, data_of}

-- what a node says: the problem, its pivot or 0, and the ranks of its prefix
pub record Prefix : Type 0 where
  pub problem : Problem
  pub pivot : ℕ
  pub ranks : List ℕ

-- the label of the node
abbrev pub label_at : Prefix → List ℕ
label_at prefix = label_of prefix.pivot prefix.ranks

-- the node with the label
abbrev pub prefix_at : Problem → List ℕ → Prefix
prefix_at problem [] = record { problem = problem; pivot = 0; ranks = [] }
prefix_at problem (pivot ∷ ranks) = record { problem = problem; pivot = pivot; ranks = ranks }

-- the node whose prefix is longer by the rank
abbrev pub longer_by : Prefix → ℕ → Prefix
longer_by prefix rank = record prefix { ranks = prefix.ranks ++ rank ∷ [] }

-- the node has this row, or none
abbrev pub HasRow : Prefix → Option Row → Type 0
HasRow prefix row =
    IsRowOf (data_of prefix.problem) prefix.problem.ranking.order prefix.pivot prefix.ranks row

-- the nodes with these labels are the kids of the node, in their order
abbrev pub HasKids : Prefix → List (List ℕ) → Type 0
HasKids prefix labels =
    AreKids (data_of prefix.problem) prefix.problem.ranking.order prefix.pivot prefix.ranks labels
