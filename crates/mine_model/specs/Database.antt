-- A sequence database: its sequences by number, and how they are held.
use Rattle.std.specs.Prelude.{◌≡◌, ℕ, ◌≤◌, List, [], ◌∷◌, length, slice_index_or, All}
use Rattle.mine_model.specs.declared.item.Item.{Item}
use Rattle.mine_model.specs.Limits.{most_sequences, most_length, most_weight}
use Rattle.mine_model.specs.Support.{Sequence}

-- the sequence with this number, counted from 0
abbrev pub sequence_at : List (Sequence Item) → ℕ → Sequence Item
sequence_at sequences i = slice_index_or sequences i (record { items = []; weight = 0 })

-- its length and its weight are within their limits
pub record IsWithinLimits (sequence : Sequence Item) : Type 0 where
  pub short : length sequence.items ≤ most_length
  pub least : 1 ≤ sequence.weight
  pub most : sequence.weight ≤ most_weight

-- the sequences with these items, each with its weight
abbrev pub sequences_of : List (List Item) → List ℕ → List (Sequence Item)
sequences_of [] weights = []
sequences_of (items ∷ lists) [] = []
sequences_of (items ∷ lists) (weight ∷ weights) =
    (record { items = items; weight = weight }) ∷ sequences_of lists weights

-- each of the lists has a weight, and all are within the limits
pub record AreWeighted (lists : List (List Item)) (weights : List ℕ) : Type 0 where
  pub each : length weights ≡ length lists
  pub few : length lists ≤ most_sequences
  pub limits : All IsWithinLimits (sequences_of lists weights)
