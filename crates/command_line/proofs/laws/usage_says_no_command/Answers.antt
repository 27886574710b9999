use Rattle.command_line.proofs.CommandLemmas.{IsUsage-excludes}
use Rattle.command_line.proofs.laws.usage_says_no_command.Goals as goal

pub returns : goal.returns
returns c = IsUsage-excludes
