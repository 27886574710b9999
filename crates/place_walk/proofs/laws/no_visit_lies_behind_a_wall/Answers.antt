use Rattle.place_walk.proofs.StandLemmas.{wall-stops}
use Rattle.place_walk.proofs.laws.no_visit_lies_behind_a_wall.Goals as goal

pub returns : goal.returns
returns c = wall-stops
