use Rattle.std.proofs.Common.{◌≡◌, map, take}
use Rattle.clap.specs.Words.{rule_of}
use Rattle.command_line.specs.Arguments.{rule_for}
use Rattle.command_line.proofs.options.all_made.Given as goal

abbrev pub invariant-loop-argument : goal.invariant-loop-argument
invariant-loop-argument l = map rule_of l.made_so_far.items ≡ map rule_for (take l.argument-index l.arguments)
