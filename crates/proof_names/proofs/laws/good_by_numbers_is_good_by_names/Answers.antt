use Rattle.proof_names.proofs.NumberedLemmas.{good-named}
use Rattle.proof_names.proofs.laws.good_by_numbers_is_good_by_names.Goals as goal

pub returns : goal.returns
returns c = good-named
