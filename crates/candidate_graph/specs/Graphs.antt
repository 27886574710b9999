-- The candidates of one sequence as a graph.
use Rattle.std.specs.Prelude.{◌≡◌, ℕ, ◌<◌, ◌↔◌, Bool, IsTrue, Option, Some, List, map, AllPairs, Contains, slice_get}
use Rattle.place_walk.specs.declared.stand.Stand.{Stand}
use Rattle.place_walk.specs.declared.visit.Visit.{Visit}
use Rattle.place_walk.specs.Courses.{Course}
use Rattle.place_walk.specs.Visits.{AreVisits}
use Rattle.stand_sums.specs.declared.aim.Aim.{Aim}
use Rattle.stand_sums.specs.Aims.{sees}
use Rattle.stand_sums.specs.Writings.{Ranks, ends, follows}
use Rattle.stand_sums.specs.Sequences.{HasOne}
use Rattle.stand_sums.specs.Files.{stands_in}
use Rattle.candidate_graph.specs.declared.edge.Edge.{Edge}
use Rattle.candidate_graph.specs.Courses.{Courses, course_in, AreStandsOn}

-- whether a prefix holds what is needed, and where its paths stand
pub record Standpoint : Type 0 where
  pub seen : Bool
  pub stands : List Stand

-- a standpoint, and its edges where they were asked for
pub record Node : Type 0 where
  pub at : Standpoint
  pub edges : Option (List Edge)

-- ranks below this are known; and the nodes, by number
pub record GraphValue : Type 0 where
  pub room : ℕ
  pub nodes : List Node

abbrev pub points_of : List Node → List Standpoint
points_of nodes = map (λ node. node.at) nodes

abbrev pub aim_at : Standpoint → Option ℕ → Aim
aim_at at need = record { seen = at.seen; need = need }

-- the standpoint of the prefix with the rank, from what the paths write that have this aim
abbrev pub point_behind : Ranks → Aim → ℕ → List Visit → Standpoint
point_behind ranks aim rank visits =
    record { seen = sees aim rank; stands = stands_in ranks aim rank visits }

-- what an edge says, where paths with this aim write these visits: its rank follows, whether the prefix with
-- it is a candidate, and the node of that prefix
pub record LeadsTo (points : List Standpoint) (ranks : Ranks) (aim : Aim) (visits : List Visit) (edge : Edge)
    : Type 0 where
  pub follows : HasOne (follows ranks aim edge.rank) visits
  pub ends : IsTrue edge.ends ↔ HasOne (ends ranks aim edge.rank) visits
  pub next : slice_get points edge.next ≡ Some (point_behind ranks aim edge.rank visits)

-- exactly the edges from the stands: one for each rank that follows, rising
pub record AreEdges (course : Course) (points : List Standpoint) (ranks : Ranks) (aim : Aim)
    (stands : List Stand) (edges : List Edge)
    : Type 0 where
  pub visits : List Visit
  pub exact : AreVisits course stands visits
  pub rising : AllPairs (λ low high. low.rank < high.rank) edges
  pub right : (edge : Edge) → Contains edges edge → LeadsTo points ranks aim visits edge
  pub all : (rank : ℕ) → HasOne (follows ranks aim rank) visits
      → (edge : Edge) × Contains edges edge × (edge.rank ≡ rank)

-- The nodes have different standpoints, from which paths can go on, and each has its edges or none yet.
pub record IsGraph (courses : Courses) (ranks : Ranks) (need : Option ℕ) (nodes : List Node) : Type 0 where
  pub distinct : (one other : ℕ) (at : Standpoint) → slice_get (points_of nodes) one ≡ Some at
      → slice_get (points_of nodes) other ≡ Some at → one ≡ other
  pub on : (number : ℕ) (at : Standpoint) → slice_get (points_of nodes) number ≡ Some at
      → AreStandsOn (course_in courses at.seen) at.stands
  pub edges : (number : ℕ) (node : Node) (edges : List Edge) → slice_get nodes number ≡ Some node
      → node.edges ≡ Some edges
      → AreEdges (course_in courses node.at.seen) (points_of nodes) ranks (aim_at node.at need)
      node.at.stands edges

-- the edges of the node are known
abbrev pub IsExpanded : List Node → ℕ → Type 0
IsExpanded nodes number =
    (node : Node) × (edges : List Edge) × (slice_get nodes number ≡ Some node) × (node.edges ≡ Some edges)

-- all edges are known
abbrev pub IsWhole : List Node → Type 0
IsWhole nodes =
    (number : ℕ) (node : Node) → slice_get nodes number ≡ Some node
    → (edges : List Edge) × (node.edges ≡ Some edges)

-- each node keeps its number, and its edges once they are known
abbrev pub Grows : List Node → List Node → Type 0
Grows before now =
    (number : ℕ) (node : Node) → slice_get before number ≡ Some node
    → (after : Node) × (slice_get now number ≡ Some after) × (after.at ≡ node.at)
    × ((edges : List Edge) → node.edges ≡ Some edges → after.edges ≡ Some edges)
