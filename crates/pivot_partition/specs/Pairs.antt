-- Pairs of a sequence and one of its pivots.
use Rattle.std.specs.Prelude.{◌≡◌, ◌≢◌, ℕ, ◌+◌, ◌*◌, ◌≤◌, ◌<◌, ◌⊎◌, ◌↔◌, ◌==◌, min, cond, List, [], ◌∷◌, length, AllPairs, Contains, sum_by, slice_index}
use Rattle.std.specs.List.{AllZip, range_with_len, flat_map, slice_index_or}
use Rattle.std.specs.Global.{Vec}
use Rattle.mine_model.specs.Database.{sequence_at}
use Rattle.mining_job.specs.Problems.{Problem, items_of}
use Rattle.pivot_partition.specs.declared.pairs.Pair.{Pair}
use Rattle.pivot_partition.specs.Pivots.{IsPivotOf}

-- the first pair comes first: its sequence does, or it is the same and the pivots differ
abbrev pub ComesFirst : Pair → Pair → Type 0
ComesFirst first second = (first.sequence < second.sequence)
    ⊎ ((first.sequence ≡ second.sequence) × (first.pivot ≢ second.pivot))

-- all pairs of the sequences between these numbers, each once, by rising sequence
pub record ArePairs (problem : Problem) (from to : ℕ) (pairs : List Pair) : Type 0 where
  pub ordered : AllPairs ComesFirst pairs
  pub exact : (pair : Pair) → Contains pairs pair ↔ ((from ≤ pair.sequence) × (pair.sequence < to)
      × IsPivotOf problem (items_of problem pair.sequence) pair.pivot)

-- where a piece of this size begins
abbrev pub place : ℕ → ℕ → ℕ → ℕ
place size count piece = min (piece * size) count

-- so many parts are the pairs of the pieces, in order
abbrev pub ArePieces : Problem → ℕ → ℕ → List (Vec Pair) → Type 0
ArePieces problem size pieces parts = AllZip (λ piece part. ArePairs problem
    (place size (length problem.sequences) piece)
    (place size (length problem.sequences) (piece + 1)) part.items)
    (range_with_len 0 pieces) parts

-- the pairs of all parts, one after another
abbrev pub all_of : List (Vec Pair) → List Pair
all_of parts = flat_map (λ part. part.items) parts

-- the sequences that have the pivot
unfoldable pub sequences_with : ℕ → List Pair → List ℕ
sequences_with pivot [] = []
sequences_with pivot (pair ∷ pairs) = cond (pair.pivot == pivot)
    (pair.sequence ∷ sequences_with pivot pairs) (sequences_with pivot pairs)

-- what they weigh together
abbrev pub weight_with : Problem → ℕ → List Pair → ℕ
weight_with problem pivot pairs =
    sum_by (λ i. (sequence_at problem.sequences i).weight) (sequences_with pivot pairs)

-- the sums are what the sequences with each pivot weigh
abbrev pub AreWeights : Problem → List Pair → List ℕ → Type 0
AreWeights problem pairs sums = (pivot : ℕ) → slice_index sums pivot ≡ weight_with problem pivot pairs

-- the lists have the sequences with each pivot that weighs enough
abbrev pub AreLists : ℕ → List ℕ → List Pair → List (Vec ℕ) → Type 0
AreLists threshold sums pairs lists = (pivot : ℕ) (none : Vec ℕ) → pivot < length lists
    → threshold ≤ slice_index sums pivot
    → (slice_index_or lists pivot none).items ≡ sequences_with pivot pairs
