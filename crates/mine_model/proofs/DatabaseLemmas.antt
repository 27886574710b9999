-- Lemmas on the sequences of a database, and the items and the weights that it holds of them.
use Rattle.std.proofs.Common.{◌≡◌, ℕ, zero, suc, ◌≤◌, ◌<◌, List, [], ◌∷◌, ◌++◌, length, get_or, refl, ap, arith}
use Rattle.std.proofs.lemmas.List.{length_push}
use Rattle.std.proofs.lemmas.List.Elements.{All-push}
use Rattle.mine_model.specs.declared.item.Item.{Item}
use Rattle.mine_model.specs.Limits.{most_sequences, most_length, most_weight}
use Rattle.mine_model.specs.Support.{Sequence}
use Rattle.mine_model.specs.Database.{sequence_at, IsWithinLimits, sequences_of, AreWeighted}

pub length-sequences_of : (lists : List (List Item)) (weights : List ℕ) → length weights ≡ length lists → length (sequences_of lists weights) ≡ length lists
length-sequences_of [] weights each = refl
length-sequences_of (items ∷ lists) [] each = absurd (omega (arith, each))
length-sequences_of (items ∷ lists) (weight ∷ weights) each = ap suc (length-sequences_of lists weights (omega (arith, each)))

pub sequences_of-push : (lists : List (List Item)) (weights : List ℕ) (items : List Item) (weight : ℕ) → length weights ≡ length lists
    → sequences_of (lists ++ items ∷ []) (weights ++ weight ∷ []) ≡ sequences_of lists weights ++ (record { items = items; weight = weight }) ∷ []
sequences_of-push [] [] items weight each = refl
sequences_of-push [] (first ∷ weights) items weight each = absurd (omega (arith, each))
sequences_of-push (first ∷ lists) [] items weight each = absurd (omega (arith, each))
sequences_of-push (first ∷ lists) (own ∷ weights) items weight each =
    ap (λ (others : List (Sequence Item)). (record { items = first; weight = own }) ∷ others) (sequences_of-push lists weights items weight (omega (arith, each)))

-- the sequence with a number has the items and the weight with this number
pub sequence_at-of : (lists : List (List Item)) (weights : List ℕ) (i : ℕ) → length weights ≡ length lists → i < length lists
    → sequence_at (sequences_of lists weights) i ≡ record { items = get_or lists i []; weight = get_or weights i 0 }
sequence_at-of [] weights i each within = absurd (omega arith)
sequence_at-of (items ∷ lists) [] i each within = absurd (omega (arith, each))
sequence_at-of (items ∷ lists) (weight ∷ weights) zero each within = refl
sequence_at-of (items ∷ lists) (weight ∷ weights) (suc i) each within = sequence_at-of lists weights i (omega (arith, each)) (omega arith)

-- one more sequence
pub AreWeighted-push : (lists : List (List Item)) (weights : List ℕ) (items : List Item) (weight : ℕ) → AreWeighted lists weights → length lists < most_sequences
    → length items ≤ most_length → 1 ≤ weight → weight ≤ most_weight → AreWeighted (lists ++ items ∷ []) (weights ++ weight ∷ [])
AreWeighted-push lists weights items weight are few short least most = record {
  each = omega (arith, length_push lists items, length_push weights weight, are.each);
  few = omega (arith, length_push lists items, few);
  limits = rw (sequences_of-push lists weights items weight are.each)
      (All-push IsWithinLimits (sequences_of lists weights) (record { items = items; weight = weight }) are.limits (record { short = short; least = least; most = most }));
}
