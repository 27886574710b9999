use Rattle.command_line.proofs.MergedCommand.{merge_is_plain}
use Rattle.command_line.proofs.laws.a_merge_stands_alone.Goals as goal

pub returns : goal.returns
returns c = merge_is_plain
