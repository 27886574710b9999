use Rattle.command_line.proofs.ProofCommand.{proof_is_said}
use Rattle.command_line.proofs.laws.proof_words_say.Goals as goal

pub returns : goal.returns
returns c = proof_is_said
