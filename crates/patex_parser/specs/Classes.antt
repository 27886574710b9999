-- The bytes that runs are made of.
use Rattle.std.specs.Prelude.{ℕ, Bool, not, ◌==◌}
use Rattle.mine_model.specs.Bytes.{comma}
use Rattle.mine_model.specs.Tokens.{is_free, is_bare_byte, is_closing_brace}
use Rattle.std.specs.Char.{is_ascii_digit}
use Rattle.patex_parser.specs.declared.bytes.Class.{Class}
use Rattle.patex_parser.specs.declared.bytes.Class.TheVariants.{Free, Bare, Digit, Inner, BeforeComma}

abbrev pub test_of : Class → ℕ → Bool
test_of Free b = is_free b
test_of Bare b = is_bare_byte b
test_of Digit b = is_ascii_digit b
test_of Inner b = not (is_closing_brace b)
test_of BeforeComma b = not (b == comma)
