use Rattle.command_line.proofs.ProofCommand.{check_is_said}
use Rattle.command_line.proofs.laws.check_words_say.Goals as goal

pub returns : goal.returns
returns c digits proof expression file n number plain_proof plain_expression plain_file =
    check_is_said digits expression file n number plain_expression plain_file proof plain_proof
