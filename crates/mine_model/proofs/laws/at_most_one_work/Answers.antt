use Rattle.mine_model.proofs.WorkLemmas.{IsCountingWork-unique}
use Rattle.mine_model.proofs.laws.at_most_one_work.Goals as goal

pub returns : goal.returns
returns c = IsCountingWork-unique
