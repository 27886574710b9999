use Rattle.std.proofs.Common.{◌≡◌, take}
use Rattle.mine_model.specs.Grammar.{value_of_digits}
use Rattle.command_line.proofs.number.value_of.Given as goal

abbrev pub invariant-loop-digit : goal.invariant-loop-digit
invariant-loop-digit l = value_of_digits (take l.digit-index l.digits) ≡ l.value
