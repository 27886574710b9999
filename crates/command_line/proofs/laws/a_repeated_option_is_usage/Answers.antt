use Rattle.command_line.proofs.OptionWords.{each_once}
use Rattle.command_line.proofs.laws.a_repeated_option_is_usage.Goals as goal

pub returns : goal.returns
returns c = each_once
