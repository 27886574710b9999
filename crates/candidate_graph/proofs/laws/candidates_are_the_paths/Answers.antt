use Rattle.candidate_graph.proofs.PathLemmas.{paths-are}
use Rattle.candidate_graph.proofs.laws.candidates_are_the_paths.Goals as goal

pub returns : goal.returns
returns c courses ranks need nodes graph whole number at is list =
    paths-are c.visits_are_those_of_each_stand.ensures courses ranks need nodes graph whole list number at is
