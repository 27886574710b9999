-- The bytes that have a meaning in a file or in an expression, by their names.
use Rattle.std.specs.Prelude.{ℕ}

abbrev pub tab : ℕ
tab = 9

abbrev pub line_feed : ℕ
line_feed = 10

abbrev pub carriage_return : ℕ
carriage_return = 13

abbrev pub space : ℕ
space = 32

abbrev pub exclamation_mark : ℕ
exclamation_mark = 33

abbrev pub quote : ℕ
quote = 39

abbrev pub open_round : ℕ
open_round = 40

abbrev pub close_round : ℕ
close_round = 41

abbrev pub asterisk : ℕ
asterisk = 42

abbrev pub plus_sign : ℕ
plus_sign = 43

abbrev pub comma : ℕ
comma = 44

abbrev pub dash : ℕ
dash = 45

abbrev pub full_stop : ℕ
full_stop = 46

abbrev pub digit_zero : ℕ
digit_zero = 48

abbrev pub equals_sign : ℕ
equals_sign = 61

abbrev pub question_mark : ℕ
question_mark = 63

abbrev pub open_square : ℕ
open_square = 91

abbrev pub close_square : ℕ
close_square = 93

abbrev pub circumflex : ℕ
circumflex = 94

abbrev pub open_brace : ℕ
open_brace = 123

abbrev pub vertical_bar : ℕ
vertical_bar = 124

abbrev pub close_brace : ℕ
close_brace = 125

abbrev pub delete : ℕ
delete = 127

-- the first byte that is no ASCII
abbrev pub beyond_ascii : ℕ
beyond_ascii = 128
