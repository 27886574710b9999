use Rattle.candidate_pairs.proofs.PathLemmas.{node-paths}
use Rattle.candidate_pairs.proofs.laws.paths_are_counted_edge_by_edge.Goals as goal

pub returns : goal.returns
returns c = λ nodes some number node edges at known count have. node-paths nodes number edges (node, at, known) some count have
