-- Rows that are sorted by child.
use Rattle.std.specs.Prelude.{◌≡◌, ℕ, ◌+◌, ◌≤◌, ◌<◌, List, length, slice_index, slice_index_or}
use Rattle.item_hierarchy.specs.declared.edges.EdgeRow.{EdgeRow}

-- the rows of item number n stand from the n-th start up to the next
pub record AreByChild (items : ℕ) (starts : List ℕ) (rows : List EdgeRow) : Type 0 where
  pub size : length starts ≡ items + 1
  pub rising : (n : ℕ) → n < items → slice_index starts n ≤ slice_index starts (n + 1)
  pub within : (n : ℕ) → n ≤ items → slice_index starts n ≤ length rows
  pub own : (n k : ℕ) (d : EdgeRow) → n < items → slice_index starts n ≤ k → k < slice_index starts (n + 1)
      → (slice_index_or rows k d).child.0 ≡ n
  pub all : (k : ℕ) (d : EdgeRow) → k < length rows
      → (slice_index starts (slice_index_or rows k d).child.0 ≤ k)
      × (k < slice_index starts ((slice_index_or rows k d).child.0 + 1))

-- no row has a smaller child than one before it
abbrev pub AreSorted : List EdgeRow → Type 0
AreSorted rows =
    (i j : ℕ) (d : EdgeRow) → i ≤ j → j < length rows
    → (slice_index_or rows i d).child.0 ≤ (slice_index_or rows j d).child.0
