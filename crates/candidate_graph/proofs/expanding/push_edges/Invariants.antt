use Rattle.std.proofs.Common.{◌≡◌, ◌++◌, List, length}
use Rattle.std.specs.List.{Contains}
use Rattle.stand_sums.specs.declared.next_rank.NextRank.{NextRank}
use Rattle.candidate_graph.specs.declared.edge.Edge.{Edge}
use Rattle.candidate_graph.specs.Graphs.{Standpoint}
use Rattle.candidate_graph.specs.Kept.{point_in, AreMade}
use Rattle.candidate_graph.proofs.expanding.push_edges.Given as goal

-- the edges of the ranks so far
abbrev pub invariant-loop-next : goal.invariant-loop-next
invariant-loop-next l = record {
  points : (more : List Standpoint) × (l.nodes ≡ l.initial.nodes ++ more)
      × ((at : Standpoint) → Contains more at → (next : NextRank) × Contains l.found next × (at ≡ point_in l.aim l.run next));
  kept : (more : List Edge) × (l.edges.items ≡ l.initial.edges.items ++ more);
  made : AreMade l.nodes l.aim l.run l.found l.next-index (length l.initial.edges.items) l.edges.items;
}
