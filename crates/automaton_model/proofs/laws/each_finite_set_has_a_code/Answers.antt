use Rattle.automaton_model.proofs.ExistenceLemmas.{lists-code}
use Rattle.automaton_model.proofs.laws.each_finite_set_has_a_code.Goals as goal

pub returns : goal.returns
returns c = λ lists. lists-code lists
