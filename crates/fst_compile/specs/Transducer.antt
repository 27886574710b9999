-- Transducers and their paths. From the DESQ article, whose expressions are compiled to transducers.
use Rattle.std.specs.Prelude.{◌≡◌, ℕ, suc, ◌<◌, ◌⊎◌, ◌↔◌, false, List, [], ◌∷◌, ◌++◌, length, map, Contains}
use Rattle.std.specs.List.{slice_index_or}
use Rattle.std.specs.List.Sorted.{IsStrictlyIncreasing}
use Rattle.state_bits.specs.Members.{Has}
use Rattle.mine_model.specs.declared.item.Item.{Item}
use Rattle.mine_model.specs.declared.expression.Expr.{Expr}
use Rattle.mine_model.specs.Hierarchy.{Link}
use Rattle.mine_model.specs.Expression.{Tree}
use Rattle.mine_model.specs.Numbered.{leaf_of}
use Rattle.mine_model.specs.Generation.{Matches, WritesAt, Generates}
use Rattle.fst_compile.specs.declared.edge.Edge.{Edge}
use Rattle.fst_compile.specs.declared.edge.Label.{Label}
use Rattle.fst_compile.specs.Shape.{Entry, labels_of, unfold_tree}
use Rattle.fst_compile.specs.Positions.{CanBeEmpty, First, Last, Follows}

-- a transducer: its states are numbered from 0, the start
pub record Transducer : Type 0 where
  pub expression : Expr
  pub labels : List Label
  pub edges : List (List Edge)
  pub finals : ℕ

-- the edges that leave the state
abbrev pub edges_from : Transducer → ℕ → List Edge
edges_from transducer state = slice_index_or transducer.edges state []

-- A path from the state to a final state reads the input, an item each edge, and writes the output.
abbrev pub IsPath : List (Link Item) → Transducer → ℕ → List Item → List Item → Type 0
IsPath links transducer state [] output = Has transducer.finals state × (output ≡ [])
IsPath links transducer state (t ∷ rest) output =
    (edge : Edge) × (here : List Item) × (there : List Item)
    × Contains (edges_from transducer state) edge
    × Matches links (leaf_of edge.leaf) t × WritesAt links (leaf_of edge.leaf) edge.captured t here
    × (output ≡ here ++ there) × IsPath links transducer edge.to.0 rest there

-- the edge leads into a state, and carries the label of that state
pub record Enters (labels : List Label) (edge : Edge) : Type 0 where
  pub number : ℕ
  pub to : edge.to.0 ≡ suc number
  pub within : number < length labels
  pub label : (default : Label)
      → slice_index_or labels number default ≡ record { leaf = edge.leaf; captured = edge.captured }

abbrev pub entry_of : Label → Entry
entry_of label = record { leaf = leaf_of label.leaf; captured = label.captured }

-- the number of the state that the edge leads to
abbrev pub target : Edge → ℕ
target edge = edge.to.0

-- edges to different states, by rising number
abbrev pub RisesByTarget : List Edge → Type 0
RisesByTarget edges = IsStrictlyIncreasing (map target edges)

-- an edge leads from one state to the other
abbrev pub Leads : Transducer → ℕ → ℕ → Type 0
Leads transducer from to = (edge : Edge) × Contains (edges_from transducer from) edge × (edge.to.0 ≡ to)

-- The transducer is the position automaton (Glushkov) of the expression with its repetitions written out.
pub record IsPositionAutomaton (transducer : Transducer) (tree : Tree Item) : Type 0 where
  pub labels : map entry_of transducer.labels ≡ labels_of (unfold_tree tree false)
  pub labelled : (state : ℕ) (edge : Edge) → Contains (edges_from transducer state) edge
      → Enters transducer.labels edge
  pub edges : (from to : ℕ) → Leads transducer from to ↔ (((from ≡ 0) × First (unfold_tree tree false) 1 to)
      ⊎ Follows (unfold_tree tree false) 1 from to)
  pub finals : (state : ℕ) → Has transducer.finals state
      ↔ (((state ≡ 0) × CanBeEmpty (unfold_tree tree false)) ⊎ Last (unfold_tree tree false) 1 state)

-- what the paths from the start write is what the expression generates, whatever the hierarchy
abbrev pub IsTransducerOf : Transducer → Tree Item → Type 0
IsTransducerOf transducer tree =
    (links : List (Link Item)) (input output : List Item)
    → IsPath links transducer 0 input output ↔ Generates links tree false input output
