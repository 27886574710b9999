use Rattle.sequence_grids.proofs.GridLemmas.{both_ways}
use Rattle.sequence_candidates.proofs.laws.whole_graphs_accept_the_patterns.Goals as goal

pub returns : goal.returns
returns c = λ part items nodes are whole list.
    both_ways (c.candidates_are_the_paths.ensures are.courses are.ranks part.bound.need nodes are.graph whole 0 are.root are.root_is list) (are.exact list)
