use Rattle.stand_sums.proofs.LawLemmas.{groups-sequences}
use Rattle.stand_sums.proofs.laws.visits_of_groups_are_sequences.Goals as goal

pub returns : goal.returns
returns c = groups-sequences
