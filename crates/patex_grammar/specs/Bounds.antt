-- The bounds of a repeat as a function of what stands between its braces.
use Rattle.std.specs.Prelude.{ℕ, Bool, ◌==◌, if◌then◌else◌, Option, Some, None, List, [], ◌∷◌}
use Rattle.std.specs.List.{filter}
use Rattle.mine_model.specs.Bytes.{comma}
use Rattle.std.specs.Char.{is_ascii_digit}
use Rattle.mine_model.specs.Grammar.{value_of_digits}

abbrev pub is_comma : ℕ → Bool
is_comma b = b == comma

abbrev pub before_comma : List ℕ → List ℕ
before_comma [] = []
before_comma (b ∷ bytes) = if is_comma b then [] else b ∷ before_comma bytes

abbrev pub behind_comma : List ℕ → Option (List ℕ)
behind_comma [] = None
behind_comma (b ∷ bytes) = if is_comma b then Some bytes else behind_comma bytes

abbrev pub bound_in : List ℕ → ℕ
bound_in bytes = value_of_digits (filter is_ascii_digit bytes)

abbrev pub upper_of : List ℕ → Option ℕ
upper_of [] = None
upper_of (d ∷ digits) = Some (value_of_digits (d ∷ digits))

abbrev pub most_from : ℕ → Option (List ℕ) → Option ℕ
most_from least None = Some least
most_from least (Some right) = upper_of (filter is_ascii_digit right)

abbrev pub least_of : List ℕ → ℕ
least_of between = bound_in (before_comma between)

abbrev pub most_of : List ℕ → Option ℕ
most_of between = most_from (least_of between) (behind_comma between)
