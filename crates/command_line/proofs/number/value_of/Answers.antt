use Rattle.std.proofs.Common.{◌≡◌, ℕ, ◌+◌, ◌-◌, ◌*◌, ◌≤◌, ◌<◌, List, arith, subst, take, drop, get_or, length}
use Rattle.std.proofs.lemmas.List.{take-append-drop}
use Rattle.mine_model.specs.Grammar.{value_of_digits}
use Rattle.mine_model.proofs.DigitLemmas.{value_of_digits-grows, value_of_digits-take_more}
use Rattle.command_line.proofs.number.value_of.Goals as goal

-- the value that the next digit leads to is reached by all digits
reached : (digits : List ℕ) (i value most : ℕ) → i < length digits → value_of_digits (take i digits) ≡ value
    → most ≤ value * 10 + (get_or digits i 0 - 48) → most ≤ value_of_digits digits
reached digits i value most inside so_far over =
    let next = value_of_digits-take_more digits i inside in
    let grows = value_of_digits-grows (take (i + 1) digits) (drop (i + 1) digits) in
    let all : value_of_digits (take (i + 1) digits) ≤ value_of_digits digits
    = subst (λ (l : List ℕ). value_of_digits (take (i + 1) digits) ≤ value_of_digits l) (take-append-drop (i + 1) digits) grows in
    omega (arith, next, all, so_far, over)

pub returns-in_err-checked_mul : goal.returns-in_err-checked_mul
returns-in_err-checked_mul c =
    let over : 18446744073709551616 ≤ c.loop-digit.value * 10 = omega (arith, c.in_err-checked_mul.ensures) in
    rw c.from_residual.ensures (reached c.args.digits.now c.loop-digit.digit-index c.loop-digit.value 18446744073709551616
    (omega arith) c.loop-digit.invariant (omega (arith, over)))

pub returns-in_err-value : goal.returns-in_err-value
returns-in_err-value c =
    let over : 18446744073709551616 ≤ c.in_ok-checked_mul.field-0 + c.from.result = omega (arith, c.in_err-value.ensures) in
    rw c.from_residual-in_err-value.ensures (reached c.args.digits.now c.loop-digit.digit-index c.loop-digit.value 18446744073709551616
    (omega arith) c.loop-digit.invariant (omega (arith, over, c.in_ok-checked_mul.ensures, c.from.ensures)))
