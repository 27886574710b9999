-- The digits of a number, as bytes of a text.
use Rattle.std.proofs.Common.{◌≡◌, ◌≢◌, ℕ, ◌+◌, ◌%◌, ◌^◌, ◌<◌, true, false, List, [], ◌∷◌, ◌++◌, nat_eq, refl, arith, ◌∙◌}
use Rattle.std.specs.Char.{is_ascii_digit}
use Rattle.std.specs.Fmt.{decimal}
use Rattle.std.proofs.lemmas.Fmt.{decimal_by_steps}
use Rattle.std.proofs.lemmas.Bool.Decides.{nat_tests}
use Rattle.mine_model.specs.Grammar.{IsDecimal}
use Rattle.mine_model.specs.Text.{is_name_byte, without_mark}
use Rattle.mine_model.specs.Tokens.{Each}
use Rattle.mine_model.proofs.DigitLemmas.{value_of_digits-push}
use Rattle.mine_model.proofs.ListLemmas.{of_both}

digit-of : (n : ℕ) → n < 10 → is_ascii_digit (48 + n) ≡ true
digit-of n less = grind (arith, nat_tests)

pub decimal-is : (n : ℕ) → n < 2 ^ 64 → IsDecimal (decimal n) n
decimal-is = decimal_by_steps (λ n digits. IsDecimal digits n)
    (λ n less. ((digit-of n less, tt), (λ none. (cc)), omega (arith, less)))
    (λ n digits many is. (
      of_both (λ b. is_ascii_digit b ≡ true) digits ((48 + n % 10) ∷ []) is.0 (digit-of (n % 10) (omega arith), tt),
      (λ none. no-end digits (48 + n % 10) none),
      value_of_digits-push digits (48 + n % 10) ∙ (let e = is.2 in omega (arith, e)),
    ))
  where
    no-end : (xs : List ℕ) (x : ℕ) → xs ++ x ∷ [] ≡ [] → ⊥
    no-end [] x same = (cc)
    no-end (y ∷ xs) x same = (cc)

pub digit-name : (b : ℕ) → is_ascii_digit b ≡ true → is_name_byte b ≡ true
digit-name b is = grind (arith, is)

mark-free : (b : ℕ) (bytes : List ℕ) → is_ascii_digit b ≡ true → without_mark (b ∷ bytes) ≡ b ∷ bytes
mark-free b bytes is = let other : nat_eq b 239 ≡ false = grind (arith, is) in grind (arith, other)

-- what begins with a digit has no byte order mark
pub no-mark : (digits rest : List ℕ) → Each is_ascii_digit true digits → digits ≢ [] → without_mark (digits ++ rest) ≡ digits ++ rest
no-mark [] rest each some = absurd (some refl)
no-mark (b ∷ digits) rest each some = mark-free b (digits ++ rest) each.0
