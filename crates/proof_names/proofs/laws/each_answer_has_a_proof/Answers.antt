use Rattle.proof_names.proofs.ExistingProofLemmas.{has-proof}
use Rattle.proof_names.proofs.laws.each_answer_has_a_proof.Goals as goal

pub returns : goal.returns
returns c = has-proof
