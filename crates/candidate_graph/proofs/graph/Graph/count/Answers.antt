use Rattle.std.proofs.Common.{◌∙◌, length, sym, ap}
use Rattle.candidate_graph.specs.Graphs.{GraphValue}
use Rattle.candidate_graph.proofs.NodeLemmas.{nodes-long}
use Rattle.candidate_graph.proofs.graph.Graph.count.Goals as goal

pub returns : goal.returns
returns c =
    c.len.ensures.count ∙ sym (nodes-long c.self.inside.edges.items c.self.inside.nodes c.self.inside.spans.items)
    ∙ ap (λ (g : GraphValue). length g.nodes) c.self.view_is
