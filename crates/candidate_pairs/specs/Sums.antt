-- Sums by number of a node.
use Rattle.std.specs.Prelude.{ℕ, ◌+◌, List, slice_index}
use Rattle.mine_model.specs.Counted.{IsTold}
use Rattle.candidate_graph.specs.declared.edge.Edge.{Edge}
use Rattle.candidate_graph.specs.Graphs.{Node}
use Rattle.candidate_pairs.specs.Paths.{HasPaths, ending}

-- the lists that begin with the edge, by what is told of the node behind it
abbrev pub told_behind : List ℕ → Edge → ℕ
told_behind sums edge = ending edge + slice_index sums edge.next

-- the node's sum is what is told of the lists that are accepted from it
abbrev pub IsSummed : List Node → List ℕ → ℕ → Type 0
IsSummed nodes sums number = IsTold (HasPaths nodes number) (slice_index sums number)

-- what was summed up stays so
abbrev pub KeepsSums : List Node → List ℕ → List ℕ → Type 0
KeepsSums nodes before now = (number : ℕ) → IsSummed nodes before number → IsSummed nodes now number
