use Rattle.answer_laws.proofs.AcceptedLemmas.{accepted}
use Rattle.answer_laws.proofs.laws.accepted_expression_reads_as_a_tree.Goals as goal

pub returns : goal.returns
returns c = λ text none. accepted text none
