-- From candidates to branches.
use Rattle.std.proofs.Common.{◌≡◌, ◌↔◌, ℕ, Option, Some, List, [], ◌∷◌, ◌++◌, slice_get, sym, ◌∙◌, subst, append_assoc, ◌<◌, length, arith}
use Rattle.std.specs.List.{Contains, AllPairs}
use Rattle.std.proofs.lemmas.List.{length-map}
use Rattle.std.proofs.lemmas.Option.{same_Some, slice_get_within}
use Rattle.mine_model.specs.declared.item.Item.{Item}
use Rattle.mine_model.specs.Ranks.{AreRanked}
use Rattle.search_tree.proofs.SearchAnswerLemmas.{frequent-within}
use Rattle.mining_job.specs.Problems.{Problem, IsWhole, data_of}
use Rattle.sequence_grids.specs.Grids.{GridList, items_at}
use Rattle.candidate_graph.specs.declared.edge.Edge.{Edge}
use Rattle.candidate_graph.specs.Courses.{course_in}
use Rattle.candidate_graph.specs.Graphs.{Node, points_of, aim_at, AreEdges}
use Rattle.candidate_graph.specs.Paths.{Reaches}
use Rattle.snapshot_project.specs.Extensions.{GeneratesWithin}
use Rattle.sequence_candidates.specs.Candidates.{CandidatesValue, AreCandidates}
use Rattle.prefix_sieve.specs.Fronts.{LeadsToAll}
use Rattle.sieve_passes.specs.Branches.{part_of, IsBegun}

-- what follows a prefix is told by the edges of its node
abbrev pub TellsWhatFollows : GridList → List Item → List Node → Type 0
TellsWhatFollows part items nodes = (prefix : List ℕ) (number : ℕ) → Reaches nodes 0 prefix number
    → (node : Node) (edges : List Edge) → slice_get nodes number ≡ Some node → node.edges ≡ Some edges
    → (rank : ℕ) → ((edge : Edge) × Contains edges edge × (edge.rank ≡ rank))
    ↔ ((rest : List ℕ) × GeneratesWithin part (prefix ++ rank ∷ rest) items)

pub leads-to-all : (problem : Problem) (sequences : List ℕ) (items : List Item) (nodes : List Node) → IsWhole problem
    → TellsWhatFollows (part_of problem sequences) items nodes → LeadsToAll (data_of problem) problem.ranking.order items nodes
leads-to-all problem sequences items nodes whole tells prefix number reaches (node, edges, at, known) rank (rest, has) =
    let order = problem.ranking.order in
    let (pattern, is, ranked) = has in
    let ranks : AreRanked order pattern (prefix ++ rank ∷ rest) = subst (AreRanked order pattern) (append_assoc prefix (rank ∷ []) rest) ranked in
    let (edge, held, same) = (tells prefix number reaches node edges at known rank).1
    (rest, (pattern, ranks, is.generated, frequent-within (data_of problem) problem.ranking whole.ranks pattern is.allowed)) in
    (edge, (node, edges, at, known, held, same))

-- ---- the edges of a node

module _ (part : GridList) (items : List Item) (nodes : List Node) (are : AreCandidates part items nodes) (number : ℕ) (node : Node) (edges : List Edge)
    (at : slice_get nodes number ≡ Some node) (known : node.edges ≡ Some edges) where
  edges-are : AreEdges (course_in are.courses node.at.seen) (points_of nodes) are.ranks (aim_at node.at part.bound.need) node.at.stands edges
  edges-are = are.graph.edges number node edges at known

  pub edges-rising : AllPairs (λ (low high : Edge). low.rank < high.rank) edges
  edges-rising = edges-are.rising

  pub edges-within : (edge : Edge) → Contains edges edge → edge.next < length nodes
  edges-within edge held =
      let below : edge.next < length (points_of nodes) = slice_get_within (points_of nodes) edge.next _ (edges-are.right edge held).next in
      omega (arith, below, length-map nodes (λ (node : Node). node.at))

-- the nodes of the sequence that was begun, whatever was found out about them
pub begun-nodes : (part : GridList) (begun : Option ℕ) (index : ℕ) (value : CandidatesValue) → value.part ≡ part → value.begun ≡ begun → begun ≡ Some index
    → IsBegun value → AreCandidates part (items_at part index) value.nodes
begun-nodes part begun index value same also at (other, is) =
    let here : other ≡ index = same_Some other index (sym is.begun ∙ also ∙ at) in
    subst (λ (i : ℕ). AreCandidates part (items_at part i) value.nodes) here
    (subst (λ (p : GridList). AreCandidates p (items_at p other) value.nodes) same is.nodes)
