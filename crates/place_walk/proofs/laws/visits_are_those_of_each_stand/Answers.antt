use Rattle.place_walk.proofs.StandLemmas.{visits-each}
use Rattle.place_walk.proofs.laws.visits_are_those_of_each_stand.Goals as goal

pub returns : goal.returns
returns c = visits-each
