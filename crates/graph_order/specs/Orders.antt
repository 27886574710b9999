-- The nodes of a graph, each after those to which its edges lead.
use Rattle.std.specs.Prelude.{◌≡◌, ℕ, ◌<◌, Option, Some, List, length, Contains, slice_get}
use Rattle.stand_sums.specs.Writings.{Ranks}
use Rattle.candidate_graph.specs.declared.edge.Edge.{Edge}
use Rattle.candidate_graph.specs.Courses.{Courses}
use Rattle.candidate_graph.specs.Graphs.{Node, IsGraph}
use Rattle.candidate_graph.specs.Paths.{HasEdge}
use Rattle.graph_order.specs.declared.order.Turn.{Turn}

-- the nodes are those of the candidates of some sequence
abbrev pub IsSomeGraph : List Node → Type 0
IsSomeGraph nodes =
    (courses : Courses) × (ranks : Ranks) × (need : Option ℕ) × IsGraph courses ranks need nodes

-- the node has its turn before this place
abbrev pub HasTurnBefore : List Turn → ℕ → ℕ → Type 0
HasTurnBefore order place node =
    (earlier : ℕ) × (turn : Turn) × (earlier < place) × (slice_get order earlier ≡ Some turn)
    × (turn.node ≡ node)

-- each node has a turn, after those to which its edges lead
pub record AreInOrder (nodes : List Node) (order : List Turn) : Type 0 where
  pub inside : (turn : Turn) → Contains order turn → turn.node < length nodes
  pub all : (node : ℕ) → node < length nodes → HasTurnBefore order (length order) node
  pub after : (place : ℕ) (turn : Turn) (rank : ℕ) (edge : Edge) → slice_get order place ≡ Some turn
      → HasEdge nodes turn.node rank edge → HasTurnBefore order place edge.next
