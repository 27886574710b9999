-- The candidates of a sequence of a part, as a graph.
use Rattle.std.specs.Prelude.{◌≡◌, ◌≢◌, ℕ, ◌⊎◌, ◌↔◌, IsTrue, Option, Some, List, [], ◌∷◌, slice_get}
use Rattle.mine_model.specs.declared.item.Item.{Item}
use Rattle.sequence_grids.specs.Grids.{GridList}
use Rattle.stand_sums.specs.Writings.{Ranks}
use Rattle.candidate_graph.specs.declared.edge.Edge.{Edge}
use Rattle.candidate_graph.specs.Courses.{Courses}
use Rattle.candidate_graph.specs.Graphs.{Standpoint, Node, points_of, IsGraph}
use Rattle.candidate_graph.specs.Paths.{CanWrite, HasEdge}
use Rattle.snapshot_project.specs.Extensions.{GeneratesWithin}

-- a part, the index of its sequence that was begun last, and the nodes of the graph of that sequence
pub record CandidatesValue : Type 0 where
  pub part : GridList
  pub begun : Option ℕ
  pub nodes : List Node

-- some ranks are written from where the paths of the node stand
abbrev pub CanGoOn : Courses → Ranks → Option ℕ → List Node → ℕ → Type 0
CanGoOn courses ranks need nodes number =
    (at : Standpoint) × (rest : List ℕ) × (slice_get (points_of nodes) number ≡ Some at)
    × CanWrite courses ranks need at rest

-- The nodes are a graph, from whose first node the non-empty patterns of the items within the part's bound
-- are written, by their ranks, and nothing else is; and each edge ends, or leads to where paths go on.
pub record AreCandidates (part : GridList) (items : List Item) (nodes : List Node) : Type 0 where
  pub courses : Courses
  pub ranks : Ranks
  pub graph : IsGraph courses ranks part.bound.need nodes
  pub root : Standpoint
  pub root_is : slice_get (points_of nodes) 0 ≡ Some root
  pub exact : (list : List ℕ) → CanWrite courses ranks part.bound.need root list
      ↔ ((list ≢ []) × GeneratesWithin part list items)
  pub on : (number rank : ℕ) (edge : Edge) → HasEdge nodes number rank edge
      → IsTrue edge.ends ⊎ CanGoOn courses ranks part.bound.need nodes edge.next
