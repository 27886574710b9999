use Rattle.std.proofs.Common.{List, ◌≡◌, Some, ℕ, subst}
use Rattle.std.specs.List.{slice_get}
use Rattle.candidate_graph.specs.Graphs.{Standpoint}
use Rattle.candidate_graph.proofs.WordLemmas.{points-distinct}
use Rattle.candidate_graph.proofs.nodes.Nodes.len.Goals as goal

pub returns-clause-distinct : goal.returns-clause-distinct
returns-clause-distinct c =
    subst (λ (l : List Standpoint). (one other : ℕ) (at : Standpoint) → slice_get l one ≡ Some at → slice_get l other ≡ Some at → one ≡ other) c.self.view_is
    (points-distinct c.self.inside.keys.lists c.len.ensures.tally.distinct c.self.invariant)
