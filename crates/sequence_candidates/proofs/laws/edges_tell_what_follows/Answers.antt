use Rattle.sequence_candidates.proofs.LawLemmas.{edges-follow, edge-ends}
use Rattle.sequence_candidates.proofs.laws.edges_tell_what_follows.Goals as goal

pub returns : goal.returns
returns c = record {
  follows = λ part items nodes are prefix number reached node edges there known rank.
      edges-follow part items nodes are (c.ranks_are_written_edge_by_edge.ensures are.courses are.ranks part.bound.need nodes are.graph)
      prefix number reached node edges there known rank;
  ends = λ part items nodes are prefix number reached node edges there known edge held.
      edge-ends part items nodes are (c.ranks_are_written_edge_by_edge.ensures are.courses are.ranks part.bound.need nodes are.graph)
      prefix number reached node edges there known edge held;
}
