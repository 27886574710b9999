-- Columns of a transducer: states into which edges of one label lead.
use Rattle.std.specs.Prelude.{◌≡◌, ℕ, ◌+◌, ◌-◌, ◌≤◌, ◌<◌, List, length, slice_index, slice_get}
use Rattle.fst_compile.specs.declared.edge.Label.{Label}

-- the column with the number is that of the state: its first state, which is this one or another, is entered
-- by the same label
abbrev pub IsColumnOf : List Label → List ℕ → ℕ → ℕ → Type 0
IsColumnOf labels heads k number =
    (number < length heads) × (slice_get labels (slice_index heads number - 1) ≡ slice_get labels (k - 1))

-- the first states of columns are states that edges lead into
abbrev pub AreHeads : List Label → List ℕ → Type 0
AreHeads labels heads =
    (number : ℕ) → number < length heads
    → (1 ≤ slice_index heads number) × (slice_index heads number ≤ length labels)

-- the numbers, one for each state, are those of its columns
pub record AreColumns (labels : List Label) (numbers heads : List ℕ) : Type 0 where
  pub all : length numbers ≡ length labels + 1
  pub heads_are : AreHeads labels heads
  pub numbers_are : (k : ℕ) → 1 ≤ k → k ≤ length labels → IsColumnOf labels heads k (slice_index numbers k)
