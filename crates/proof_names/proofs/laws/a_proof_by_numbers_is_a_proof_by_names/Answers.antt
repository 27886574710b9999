use Rattle.proof_names.proofs.NumberedLemmas.{text-is-named}
use Rattle.proof_names.proofs.laws.a_proof_by_numbers_is_a_proof_by_names.Goals as goal

pub returns : goal.returns
returns c = text-is-named
