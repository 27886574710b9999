-- Lists that lie one behind the other in one list, each up to its end.
use Rattle.std.specs.Prelude.{◌≡◌, ℕ, ◌≤◌, ◌<◌, List, ◌∷◌, map, length, slice_index}
use Rattle.std.specs.List.{slice_range, range_with_len}

-- where the list with this number begins: where the one before it ends
abbrev pub start_of : List ℕ → ℕ → ℕ
start_of ends number = slice_index (0 ∷ ends) number

-- the list with this number
abbrev pub list_at : {A : Type 0} → List ℕ → List A → ℕ → List A
list_at ends elements number = slice_range elements (start_of ends number) (slice_index ends number)

-- the lists that end there
abbrev pub lists_in : {A : Type 0} → List ℕ → List A → List (List A)
lists_in ends elements = map (list_at ends elements) (range_with_len 0 (length ends))

-- the lists follow each other, and nothing stands behind the last
pub record AreCut (ends : List ℕ) (size : ℕ) : Type 0 where
  pub forward : (number : ℕ) → number < length ends → start_of ends number ≤ slice_index ends number
  pub whole : start_of ends (length ends) ≡ size
