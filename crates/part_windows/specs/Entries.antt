-- Entries of a part: sequences that have the same patterns within its bound, merged.
use Rattle.std.specs.Prelude.{◌≡◌, ◌≢◌, ℕ, ◌↔◌, IsTrue, Bool, List, [], AllPairs, Contains}
use Rattle.std.specs.List.{AllByRecursion, AllZip, flat_map, sum_by}
use Rattle.std.specs.List.Sorted.{IsPermutation}
use Rattle.mine_model.specs.declared.item.Item.{Item}
use Rattle.mine_model.specs.Support.{Sequence, Counts}
use Rattle.mine_model.specs.Pivots.{IsWithinPivot}
use Rattle.mining_job.specs.declared.bound.Bound.{Bound}
use Rattle.mining_job.specs.Problems.{Problem}
use Rattle.part_windows.specs.Patterns.{IsWithinBound, IsPatternWithin, HaveSamePatterns}

-- what the sequences weigh together
abbrev pub weight_of : List (Sequence Item) → ℕ
weight_of sequences = sum_by (λ sequence. sequence.weight) sequences

-- the entry stands for some sequences: it has the patterns of each, and weighs what they weigh together
pub record IsEntryOf (problem : Problem) (bound : Bound) (sequences : List (Sequence Item))
    (entry : Sequence Item) : Type 0 where
  pub some : sequences ≢ []
  pub same : AllByRecursion (λ sequence. HaveSamePatterns problem bound sequence.items entry.items) sequences
  pub weight : entry.weight ≡ weight_of sequences

-- each of the sequences stands in one of some groups, and each group has its entry
pub record AreEntries (problem : Problem) (bound : Bound) (sequences entries : List (Sequence Item))
    : Type 0 where
  pub groups : List (List (Sequence Item))
  pub all : IsPermutation sequences (flat_map (λ group. group) groups)
  pub each : AllZip (IsEntryOf problem bound) groups entries

-- the items have one of the chosen patterns, within the bound
abbrev pub HasChosen : Problem → Bound → (List Item → Bool) → List Item → Type 0
HasChosen problem bound is_chosen items =
    (pattern : List Item) × IsPatternWithin problem bound items pattern × IsTrue (is_chosen pattern)

-- a sequence with the key of an entry has its patterns
abbrev pub IsKey : Problem → Bound → (List Item → List ℕ) → List (Sequence Item) → List (Sequence Item)
    → Type 0
IsKey problem bound key sequences entries =
    (sequence entry : Sequence Item) → Contains sequences sequence → Contains entries entry
    → key sequence.items ≡ key entry.items → HaveSamePatterns problem bound sequence.items entry.items

-- The entries have different keys, and each weighs what the sequences with its key weigh. No sequence is left
-- out, and each entry stands for some.
pub record AreMergedBy (key : List Item → List ℕ) (sequences entries : List (Sequence Item)) : Type 0 where
  pub different : AllPairs (λ one other. key one.items ≢ key other.items) entries
  pub weights : (entry : Sequence Item) → Contains entries entry
      → Counts (λ items. key items ≡ key entry.items) sequences entry.weight
  pub all : (sequence : Sequence Item) → Contains sequences sequence
      → (entry : Sequence Item) × Contains entries entry × (key sequence.items ≡ key entry.items)
  pub some : (entry : Sequence Item) → Contains entries entry
      → (sequence : Sequence Item) × Contains sequences sequence × (key sequence.items ≡ key entry.items)

-- the bound is that of the pivot, or of none
abbrev pub IsBoundOf : Problem → ℕ → Bound → Type 0
IsBoundOf problem pivot bound =
    (pattern : List Item)
    → IsWithinBound problem bound pattern ↔ IsWithinPivot problem.ranking.order pivot pattern
