use Rattle.proof_names.proofs.SoundRowLemmas.{good-sound}
use Rattle.proof_names.proofs.laws.a_good_proof_by_names_proves.Goals as goal

pub returns : goal.returns
returns c = good-sound
