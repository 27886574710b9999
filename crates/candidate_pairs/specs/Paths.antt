-- How many lists of ranks a graph of candidates accepts.
use Rattle.std.specs.Prelude.{◌≡◌, ℕ, ◌+◌, if◌then◌else◌, List, [], ◌∷◌}
use Rattle.mine_model.specs.Numbers.{IsNumberOf}
use Rattle.candidate_graph.specs.declared.edge.Edge.{Edge}
use Rattle.candidate_graph.specs.Graphs.{Node}
use Rattle.candidate_graph.specs.Paths.{Accepts}

-- so many lists are accepted from the node
abbrev pub HasPaths : List Node → ℕ → ℕ → Type 0
HasPaths nodes number count = IsNumberOf (Accepts nodes number) count

-- an edge that ends has one list of its rank alone
abbrev pub ending : Edge → ℕ
ending edge = if edge.ends then 1 else 0

-- so many lists begin with one of the edges: of each edge those that are accepted behind it, and the one that
-- ends with it
abbrev pub HavePaths : List Node → List Edge → ℕ → Type 0
HavePaths nodes [] count = count ≡ 0
HavePaths nodes (edge ∷ edges) count =
    (behind : ℕ) × (rest : ℕ) × (count ≡ (ending edge + behind) + rest)
    × HasPaths nodes edge.next behind × HavePaths nodes edges rest
