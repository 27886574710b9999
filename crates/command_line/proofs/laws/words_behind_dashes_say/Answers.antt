use Rattle.mine_model.specs.Limits.{most_support}
use Rattle.command_line.proofs.PlainCommand.{behind_says}
use Rattle.command_line.proofs.PlainDigits.{number_is_plain}
use Rattle.command_line.proofs.laws.words_behind_dashes_say.Goals as goal

pub returns : goal.returns
returns c digits expression file n number =
    behind_says digits (number_is_plain 1 most_support digits n number) expression file n number
