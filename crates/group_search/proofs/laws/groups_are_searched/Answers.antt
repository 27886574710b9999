use Rattle.group_search.proofs.LawLemmas.{groups-searched}
use Rattle.group_search.proofs.laws.groups_are_searched.Goals as goal

pub returns : goal.returns
returns c = groups-searched
