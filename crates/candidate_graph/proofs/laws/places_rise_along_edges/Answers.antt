use Rattle.candidate_graph.proofs.PathLemmas.{places-rise}
use Rattle.candidate_graph.proofs.laws.places_rise_along_edges.Goals as goal

pub returns : goal.returns
returns c = places-rise
