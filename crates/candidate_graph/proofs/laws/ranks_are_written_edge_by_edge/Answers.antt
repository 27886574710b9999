use Rattle.candidate_graph.specs.Graphs.{points_of}
use Rattle.candidate_graph.proofs.PathLemmas.{step-is}
use Rattle.candidate_graph.proofs.laws.ranks_are_written_edge_by_edge.Goals as goal

pub returns : goal.returns
returns c courses ranks need nodes graph number node edges there known rank rest =
    step-is c.visits_are_those_of_each_stand.ensures courses ranks need node.at (points_of nodes) edges (graph.edges number node edges there known) rank rest
