-- What stands between the braces of a repeat, where numbers are told up to one more than the limit.
use Rattle.std.specs.Prelude.{◌≡◌, ℕ, ◌+◌, min, true, Option, Some, None, List}
use Rattle.mine_model.specs.Limits.{most_times}
use Rattle.mine_model.specs.Tokens.{Each, is_free}
use Rattle.mine_model.specs.Grammar.{IsPadded}
use Rattle.patex_parser.specs.declared.bounds.Part.{Part}
use Rattle.patex_parser.specs.declared.bounds.Part.TheVariants.{Blank, Number, Other}

-- the number is told so
abbrev pub IsCapped : ℕ → ℕ → Type 0
IsCapped n told = told ≡ min n (most_times + 1)

abbrev pub IsCappedIf : Option ℕ → Option ℕ → Type 0
IsCappedIf None told = told ≡ None
IsCappedIf (Some n) told = (k : ℕ) × (told ≡ Some k) × IsCapped n k

abbrev pub IsPart : List ℕ → Part → Type 0
IsPart bytes Blank = Each is_free true bytes
IsPart bytes (Number told) = (n : ℕ) × IsPadded bytes n × IsCapped n told
IsPart bytes Other = (Each is_free true bytes → ⊥) × ((n : ℕ) → IsPadded bytes n → ⊥)
