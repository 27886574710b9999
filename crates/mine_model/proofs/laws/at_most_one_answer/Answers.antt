use Rattle.mine_model.proofs.AnswerLemmas.{IsAnswer-unique}
use Rattle.mine_model.proofs.laws.at_most_one_answer.Goals as goal

pub returns : goal.returns
returns c = IsAnswer-unique
