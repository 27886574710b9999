use Rattle.answer_laws.proofs.ExistenceLemmas.{answered}
use Rattle.answer_laws.proofs.laws.each_data_has_an_answer.Goals as goal

pub returns : goal.returns
returns c = λ d least. answered d least
