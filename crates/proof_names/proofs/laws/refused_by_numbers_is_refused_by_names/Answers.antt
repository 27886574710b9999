use Rattle.proof_names.proofs.NumberedLemmas.{refused-named}
use Rattle.proof_names.proofs.laws.refused_by_numbers_is_refused_by_names.Goals as goal

pub returns : goal.returns
returns c = refused-named
