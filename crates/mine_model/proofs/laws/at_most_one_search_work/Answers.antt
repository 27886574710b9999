use Rattle.mine_model.proofs.WorkLemmas.{IsSearchWork-unique}
use Rattle.mine_model.proofs.laws.at_most_one_search_work.Goals as goal

pub returns : goal.returns
returns c = IsSearchWork-unique
