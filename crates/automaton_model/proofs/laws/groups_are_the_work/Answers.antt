use Rattle.automaton_model.proofs.WorkLemmas.{work-exact}
use Rattle.automaton_model.proofs.laws.groups_are_the_work.Goals as goal

pub returns : goal.returns
returns c = λ d order pivots rising alive lists zip. work-exact d order pivots rising alive lists zip
