-- Paths of the graph, and what they stand for.
use Rattle.std.specs.Prelude.{◌≡◌, ℕ, ◌⊎◌, true, IsTrue, Option, Some, List, [], ◌∷◌, Contains, slice_get}
use Rattle.place_walk.specs.declared.visit.Visit.{Visit}
use Rattle.place_walk.specs.Visits.{IsVisit}
use Rattle.stand_sums.specs.Aims.{sees}
use Rattle.stand_sums.specs.Writings.{Ranks, opens, ends}
use Rattle.stand_sums.specs.Files.{stand_at}
use Rattle.candidate_graph.specs.declared.edge.Edge.{Edge}
use Rattle.candidate_graph.specs.Courses.{Courses, course_in}
use Rattle.candidate_graph.specs.Graphs.{Standpoint, Node, aim_at}

-- where one path stands that has written the rank by the visit
abbrev pub step_to : Standpoint → Option ℕ → ℕ → Visit → Standpoint
step_to at need rank visit =
    record { seen = sees (aim_at at need) rank; stands = stand_at true visit ∷ [] }

-- One path from one of the stands writes these ranks, rank by rank, goes on behind each but the last, and can
-- end behind that.
abbrev pub CanWrite : Courses → Ranks → Option ℕ → Standpoint → List ℕ → Type 0
CanWrite courses ranks need at [] = ⊥
CanWrite courses ranks need at (rank ∷ rest) =
    (visit : Visit) × IsVisit (course_in courses at.seen) at.stands visit.place visit.kind visit.action
    × (((rest ≡ []) × IsTrue (ends ranks (aim_at at need) rank visit))
    ⊎ (IsTrue (opens ranks (aim_at at need) rank visit)
    × CanWrite courses ranks need (step_to at need rank visit) rest))

-- the node has an edge with the rank
abbrev pub HasEdge : List Node → ℕ → ℕ → Edge → Type 0
HasEdge nodes number rank edge =
    (node : Node) × (edges : List Edge) × (slice_get nodes number ≡ Some node) × (node.edges ≡ Some edges)
    × Contains edges edge × (edge.rank ≡ rank)

-- the ranks are those of a path of the graph from one node to the other
abbrev pub Reaches : List Node → ℕ → List ℕ → ℕ → Type 0
Reaches nodes from [] to = from ≡ to
Reaches nodes from (rank ∷ rest) to =
    (edge : Edge) × HasEdge nodes from rank edge × Reaches nodes edge.next rest to

-- the ranks are those of a path of the graph from the node, with which it can end
abbrev pub Accepts : List Node → ℕ → List ℕ → Type 0
Accepts nodes number [] = ⊥
Accepts nodes number (rank ∷ rest) =
    (edge : Edge) × HasEdge nodes number rank edge
    × (((rest ≡ []) × IsTrue edge.ends) ⊎ Accepts nodes edge.next rest)
