use Rattle.automaton_model.proofs.WorkedRows.{code-of_none, code-of_one, code-of_three}
use Rattle.automaton_model.proofs.laws.worked_codes.Goals as goal

pub returns : goal.returns
returns c = record { none = code-of_none; one = code-of_one; three = code-of_three }
