-- A label is a list of numbers. Lists of labels are compared as multisets.
use Rattle.std.specs.Prelude.{◌≡◌, ℕ, ◌≤◌, List, sum_by, count_by}
use Rattle.std.specs.Str.{bytes_eq}

-- both lists hold the same labels, each as often as the other: however labels are weighed, the two lists
-- weigh the same
abbrev pub SameLabels : List (List ℕ) → List (List ℕ) → Type 0
SameLabels xs ys = (weight : List ℕ → ℕ) → sum_by weight xs ≡ sum_by weight ys

-- how often the list holds the label
abbrev pub times : List ℕ → List (List ℕ) → ℕ
times label labels = count_by (λ other. bytes_eq label other) labels

-- each label at most once
abbrev pub IsOnce : List (List ℕ) → Type 0
IsOnce labels = (label : List ℕ) → times label labels ≤ 1
