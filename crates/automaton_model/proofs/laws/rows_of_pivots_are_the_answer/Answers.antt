use Rattle.automaton_model.proofs.PivotLemmas.{all-rows}
use Rattle.automaton_model.proofs.laws.rows_of_pivots_are_the_answer.Goals as goal

pub returns : goal.returns
returns c = λ d ranking are known pivots rising alive lists zip. all-rows d ranking are known pivots rising alive lists zip
