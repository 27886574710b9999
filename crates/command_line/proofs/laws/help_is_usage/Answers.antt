use Rattle.std.proofs.Common.{inl}
use Rattle.command_line.proofs.RefusedWords.{help_is_refused}
use Rattle.command_line.proofs.laws.help_is_usage.Goals as goal

pub returns : goal.returns
returns c before behind word help free = inl (help_is_refused before behind word help free)
