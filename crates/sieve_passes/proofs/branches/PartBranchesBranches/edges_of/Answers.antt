use Rattle.std.proofs.Common.{◌≡◌, ◌<◌, ◌∙◌, List, Some, length, slice_get, sym, ap, subst}
use Rattle.std.specs.List.{Contains, AllPairs}
use Rattle.sequence_grids.specs.Grids.{items_at}
use Rattle.candidate_graph.specs.declared.edge.Edge.{Edge}
use Rattle.candidate_graph.specs.Graphs.{Node}
use Rattle.sequence_candidates.specs.Candidates.{CandidatesValue}
use Rattle.sieve_passes.proofs.LeadLemmas.{edges-rising, edges-within}
use Rattle.sieve_passes.proofs.branches.PartBranchesBranches.edges_of.Goals as goal

pub returns-clause-rising : goal.returns-clause-rising
returns-clause-rising c =
    let value = c.args.self.now in
    let (index, begun) = c.requires.begun in
    let (node, edges, at, known) = c.requires.expanded in
    let here : slice_get c.graph.result.now.nodes c.args.node ≡ Some node = ap (λ (nodes : List Node). slice_get nodes c.args.node) (c.graph.ensures.nodes ∙ ap (λ (v : CandidatesValue). v.nodes) c.self.view_is) ∙ at in
    let same : c.edges_of.result.now ≡ edges = c.edges_of.ensures node edges here known in
    subst (λ (edges : List Edge). AllPairs (λ (low high : Edge). low.rank < high.rank) edges) (sym same)
    (edges-rising value.part (items_at value.part index) value.nodes begun.nodes c.args.node node edges at known)

pub returns-clause-within : goal.returns-clause-within
returns-clause-within c =
    let value = c.args.self.now in
    let (index, begun) = c.requires.begun in
    let (node, edges, at, known) = c.requires.expanded in
    let here : slice_get c.graph.result.now.nodes c.args.node ≡ Some node = ap (λ (nodes : List Node). slice_get nodes c.args.node) (c.graph.ensures.nodes ∙ ap (λ (v : CandidatesValue). v.nodes) c.self.view_is) ∙ at in
    let same : c.edges_of.result.now ≡ edges = c.edges_of.ensures node edges here known in
    subst (λ (edges : List Edge). (edge : Edge) → Contains edges edge → edge.next < length value.nodes) (sym same)
    (edges-within value.part (items_at value.part index) value.nodes begun.nodes c.args.node node edges at known)
