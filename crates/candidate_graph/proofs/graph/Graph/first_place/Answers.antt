use Rattle.std.proofs.Common.{◌∙◌, length, ap, arith}
use Rattle.std.specs.List.{slice_get}
use Rattle.candidate_graph.specs.Graphs.{GraphValue}
use Rattle.candidate_graph.proofs.NodeLemmas.{nodes-long, node-from}
use Rattle.candidate_graph.proofs.graph.Graph.first_place.Goals as goal

pub first_place-requires : goal.first_place-requires
first_place-requires c =
    let view = ap (λ (g : GraphValue). length g.nodes) c.self.view_is in
    omega (arith, c.requires, view, nodes-long c.self.inside.edges.items c.self.inside.nodes c.self.inside.spans.items)

pub returns : goal.returns
returns c n is =
    c.first_place.ensures n.at (node-from c.self.inside.edges.items c.self.inside.nodes c.self.inside.spans.items c.args.node n
    (ap (λ (g : GraphValue). slice_get g.nodes c.args.node) c.self.view_is ∙ is)).0
