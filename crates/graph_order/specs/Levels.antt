-- By what the nodes are put in order.
use Rattle.std.specs.Prelude.{◌≡◌, ℕ, ◌+◌, ◌^◌, ◌<◌, Option, Some, None, List, Contains, slice_get}
use Rattle.place_walk.specs.declared.stand.Stand.{Stand}
use Rattle.candidate_graph.specs.Graphs.{Standpoint, Node}
use Rattle.graph_order.specs.declared.order.Turn.{Turn}

-- the level falls where the first place rises, and is 0 with no stands
abbrev pub IsLevelAt : Option Stand → ℕ → Type 0
IsLevelAt None level = level ≡ 0
IsLevelAt (Some first) level = (0 < level) × (level + first.place ≡ 2 ^ 32)

abbrev pub IsLevel : Standpoint → ℕ → Type 0
IsLevel at level = IsLevelAt (slice_get at.stands 0) level

-- each node below the count has its turn, with its level
pub record AreTurns (nodes : List Node) (count : ℕ) (order : List Turn) : Type 0 where
  pub levels : (turn : Turn) → Contains order turn
      → (node : Node) × (slice_get nodes turn.node ≡ Some node) × IsLevel node.at turn.level
  pub all : (number : ℕ) → number < count → (turn : Turn) × Contains order turn × (turn.node ≡ number)
