use Rattle.command_line.proofs.CommandLemmas.{IsCommand-unique}
use Rattle.command_line.proofs.laws.at_most_one_command.Goals as goal

pub returns : goal.returns
returns c = IsCommand-unique
