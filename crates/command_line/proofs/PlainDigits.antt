-- Digits are a plain word.
use Rattle.std.proofs.Common.{◌≡◌, ℕ, arith, true, false, refl, inr, [], ◌∷◌}
use Rattle.clap.specs.Words.{Text}
use Rattle.std.specs.Char.{is_ascii_digit}
use Rattle.command_line.specs.Words.{IsNumber}
use Rattle.command_line.specs.PlainWords.{IsPlainWord, is_dash}

digit_is_no_dash : (b : ℕ) → is_ascii_digit b ≡ true → is_dash b ≡ false
digit_is_no_dash b digit = grind arith

pub number_is_plain : (least most : ℕ) (digits : Text) (n : ℕ) → IsNumber least most digits n → IsPlainWord digits
number_is_plain least most [] n at = absurd (at.decimal.1 refl)
number_is_plain least most (b ∷ bytes) n at = inr (digit_is_no_dash b at.decimal.0.0)
