use Rattle.candidate_graph.proofs.PathLemmas.{one-edge}
use Rattle.candidate_graph.proofs.laws.ranks_have_one_edge.Goals as goal

pub returns : goal.returns
returns c = one-edge
