use Rattle.command_line.proofs.CommandLemmas.{task_suits}
use Rattle.command_line.proofs.laws.a_proof_is_of_a_file.Goals as goal

pub returns : goal.returns
returns c = task_suits
