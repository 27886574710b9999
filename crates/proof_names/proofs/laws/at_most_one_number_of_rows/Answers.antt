use Rattle.proof_names.proofs.OneRefusalLemmas.{count-unique}
use Rattle.proof_names.proofs.laws.at_most_one_number_of_rows.Goals as goal

pub returns : goal.returns
returns c = λ d known clean lines first second good also. count-unique known clean d lines first second good also
