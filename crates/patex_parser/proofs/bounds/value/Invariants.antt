use Rattle.std.proofs.Common.{◌≡◌, ◌+◌, min, take}
use Rattle.mine_model.specs.Limits.{most_times}
use Rattle.mine_model.specs.Grammar.{value_of_digits}
use Rattle.patex_parser.proofs.bounds.value.Given as goal

abbrev pub invariant-loop-digit : goal.invariant-loop-digit
invariant-loop-digit l = l.value ≡ min (value_of_digits (take l.digit-index l.digits)) (most_times + 1)
