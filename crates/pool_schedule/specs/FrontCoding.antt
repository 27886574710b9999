-- Front coding: labels one behind the other, each by what it shares with the one before it and by the rest.
use Rattle.std.specs.Prelude.{◌≡◌, ℕ, List, [], ◌∷◌, ◌++◌, take, drop, length, sum_by}
use Rattle.pool_schedule.specs.declared.labels.Code.{Code}

-- what the proofs keep

-- the label of the code behind this one, with the first of these numbers
abbrev pub label_by : List ℕ → Code → List ℕ → List ℕ
label_by before code numbers = take code.shared before ++ take code.fresh numbers

-- the labels of the codes behind this one
unfoldable pub labels_by : List ℕ → List Code → List ℕ → List (List ℕ)
labels_by before [] numbers = []
labels_by before (code ∷ codes) numbers =
    label_by before code numbers ∷ labels_by (label_by before code numbers) codes (drop code.fresh numbers)

-- the last of them, or this one where there are none
unfoldable pub last_by : List ℕ → List Code → List ℕ → List ℕ
last_by before [] numbers = before
last_by before (code ∷ codes) numbers = last_by (label_by before code numbers) codes (drop code.fresh numbers)

-- how many numbers the codes take
unfoldable pub fresh_in : List Code → ℕ
fresh_in codes = sum_by (λ (code : Code). code.fresh) codes

-- the codes take all of the numbers, and this is the last label
pub record AreCoded (codes : List Code) (numbers label : List ℕ) : Type 0 where
  pub whole : fresh_in codes ≡ length numbers
  pub last : last_by [] codes numbers ≡ label
