use Rattle.command_line.proofs.MergedCommand.{merge_is_said}
use Rattle.command_line.proofs.laws.merge_words_say.Goals as goal

pub returns : goal.returns
returns c = merge_is_said
