use Rattle.command_line.proofs.SameCommand.{says_the_same}
use Rattle.command_line.proofs.laws.options_may_stand_anywhere.Goals as goal

pub returns : goal.returns
returns c = says_the_same
