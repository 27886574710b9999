-- Lemmas on decimal digits.
use Rattle.std.proofs.Common.{◌≡◌, ℕ, ◌+◌, ◌*◌, ◌-◌, ◌≤◌, ◌<◌, List, [], ◌∷◌, ◌++◌, arith, fold, take, get_or, length}
use Rattle.std.proofs.lemmas.List.{take_more}
use Rattle.std.proofs.lemmas.List.Sums.{fold-append}
use Rattle.mine_model.specs.Grammar.{value_of_digits}

pub value_of_digits-push : (digits : List ℕ) (d : ℕ) → value_of_digits (digits ++ d ∷ []) ≡ value_of_digits digits * 10 + (d - 48)
value_of_digits-push digits d = fold-append (λ value digit. value * 10 + (digit - 48)) 0 digits (d ∷ [])

-- more digits make no smaller value
grows : (value : ℕ) (digits : List ℕ) → value ≤ fold (λ value digit. value * 10 + (digit - 48)) value digits
grows value [] = omega arith
grows value (d ∷ digits) = let more = grows (value * 10 + (d - 48)) digits in omega (arith, more)

pub value_of_digits-grows : (digits more : List ℕ) → value_of_digits digits ≤ value_of_digits (digits ++ more)
value_of_digits-grows digits more = rw fold-append (grows (value_of_digits digits) more)

pub value_of_digits-take_more : (digits : List ℕ) (i : ℕ) → i < length digits → value_of_digits (take (i + 1) digits) ≡ value_of_digits (take i digits) * 10 + (get_or digits i 0 - 48)
value_of_digits-take_more digits i lt = rw (take_more digits i 0 lt) (value_of_digits-push (take i digits) (get_or digits i 0))
