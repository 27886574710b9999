-- A path of a transducer by the states that it visits.
use Rattle.std.specs.Prelude.{◌≡◌, ℕ, List, [], ◌∷◌, ◌++◌, Contains}
use Rattle.state_bits.specs.Members.{Has}
use Rattle.mine_model.specs.declared.item.Item.{Item}
use Rattle.mine_model.specs.Hierarchy.{Link}
use Rattle.mine_model.specs.Numbered.{leaf_of}
use Rattle.mine_model.specs.Generation.{Matches, WritesAt}
use Rattle.fst_compile.specs.declared.edge.Edge.{Edge}
use Rattle.fst_compile.specs.Transducer.{Transducer, edges_from}

-- From the state on, edges lead to these states, one for each item, and the last of them is final. The edges
-- read the items and write the output.
abbrev pub IsRun : List (Link Item) → Transducer → ℕ → List ℕ → List Item → List Item → Type 0
IsRun links transducer state [] [] output = Has transducer.finals state × (output ≡ [])
IsRun links transducer state [] (t ∷ items) output = ⊥
IsRun links transducer state (next ∷ states) [] output = ⊥
IsRun links transducer state (next ∷ states) (t ∷ items) output =
    (edge : Edge) × (here : List Item) × (there : List Item)
    × Contains (edges_from transducer state) edge × (edge.to.0 ≡ next)
    × Matches links (leaf_of edge.leaf) t × WritesAt links (leaf_of edge.leaf) edge.captured t here
    × (output ≡ here ++ there) × IsRun links transducer next states items there
