-- Paths of a transducer that end where we say, and not only in a final state.
use Rattle.std.specs.Prelude.{◌≡◌, ℕ, List, [], ◌∷◌, ◌++◌, Contains}
use Rattle.mine_model.specs.declared.item.Item.{Item}
use Rattle.mine_model.specs.Numbered.{leaf_of}
use Rattle.mine_model.specs.Generation.{Matches, WritesAt}
use Rattle.fst_compile.specs.declared.edge.Edge.{Edge}
use Rattle.fst_compile.specs.Transducer.{edges_from}
use Rattle.mining_job.specs.Problems.{Problem}

-- an edge leads from one state to the other, reads t and writes the output
abbrev pub IsStep : Problem → ℕ → Item → List Item → ℕ → Type 0
IsStep problem from t output to =
    (edge : Edge) × Contains (edges_from problem.transducer from) edge × (edge.to.0 ≡ to)
    × Matches problem.hierarchy.links (leaf_of edge.leaf) t
    × WritesAt problem.hierarchy.links (leaf_of edge.leaf) edge.captured t output

-- edges lead from the state to one that is an end, read the input, an item each, and write the output
abbrev pub Runs : Problem → (ℕ → Type 0) → ℕ → List Item → List Item → Type 0
Runs problem IsEnd state [] output = IsEnd state × (output ≡ [])
Runs problem IsEnd state (t ∷ input) output =
    (next : ℕ) × (here : List Item) × (there : List Item)
    × IsStep problem state t here next × (output ≡ here ++ there) × Runs problem IsEnd next input there

-- the same, to one state
abbrev pub IsRun : Problem → ℕ → List Item → List Item → ℕ → Type 0
IsRun problem from input output to = Runs problem (λ state. state ≡ to) from input output
