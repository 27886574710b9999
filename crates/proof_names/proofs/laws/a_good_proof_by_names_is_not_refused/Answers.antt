use Rattle.proof_names.proofs.NumberedLemmas.{good-unrefused}
use Rattle.proof_names.proofs.laws.a_good_proof_by_names_is_not_refused.Goals as goal

pub returns : goal.returns
returns c = good-unrefused
