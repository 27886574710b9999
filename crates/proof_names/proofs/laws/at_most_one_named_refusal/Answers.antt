use Rattle.proof_names.proofs.OneRefusalLemmas.{file-unique}
use Rattle.proof_names.proofs.laws.at_most_one_named_refusal.Goals as goal

pub returns : goal.returns
returns c = λ d known clean bytes. file-unique known clean d bytes
