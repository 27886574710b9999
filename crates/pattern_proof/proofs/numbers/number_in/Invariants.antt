use Rattle.std.proofs.Common.{◌≡◌, true, min, take}
use Rattle.std.specs.List.{AllByRecursion}
use Rattle.std.specs.Char.{is_ascii_digit}
use Rattle.mine_model.specs.Grammar.{value_of_digits}
use Rattle.pattern_proof.proofs.numbers.number_in.Given as goal

abbrev pub invariant-loop-digit : goal.invariant-loop-digit
invariant-loop-digit l = record {
  digits : AllByRecursion (λ b. is_ascii_digit b ≡ true) (take l.digit-index l.digits);
  value : l.value ≡ min (value_of_digits (take l.digit-index l.digits)) 1000000000000000001;
}
