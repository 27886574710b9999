-- Supports and prefixes over the entries of a part.
use Rattle.std.proofs.Common.{◌↔◌, ℕ, ◌<◌, List, [], ◌++◌, length, map}
use Rattle.std.specs.List.{Contains}
use Rattle.std.specs.Prelude.{Bool}
use Rattle.mine_model.specs.declared.item.Item.{Item}
use Rattle.mine_model.specs.Database.{sequence_at}
use Rattle.mine_model.specs.Generation.{IsPatternOf}
use Rattle.mine_model.specs.Growth.{WeighAtLeast, HasPatternBehind}
use Rattle.mine_model.specs.Numbered.{tree_of}
use Rattle.mine_model.specs.Pivots.{IsWithinPivot}
use Rattle.mine_model.specs.Support.{Sequence, Counts, HasSupport}
use Rattle.mine_model.proofs.AliveLemmas.{Counts-part, WeighAtLeast-part, WeighAtLeast-weaker}
use Rattle.mine_model.proofs.FrequencyLemmas.{Counts-by}
use Rattle.mining_job.specs.declared.bound.Bound.{Bound}
use Rattle.mining_job.specs.declared.part_seed.PartSeed.{PartSeed}
use Rattle.mining_job.specs.Parts.{pivot_of, IsComplete}
use Rattle.mining_job.specs.Problems.{Problem, data_of, items_of}
use Rattle.part_windows.specs.Entries.{AreEntries, HasChosen, IsBoundOf}
use Rattle.part_windows.specs.Patterns.{IsWithinBound, HaveSamePatterns}
use Rattle.part_windows.proofs.EntryLemmas.{entries-count, entries-weigh}

module _ (problem : Problem) where
  abbrev Generated : List Item → List Item → Type 0
  Generated pattern items = IsPatternOf problem.hierarchy.links (tree_of problem.transducer.expression) items pattern

  module _ (bound : Bound) where
    same-pattern : (pattern : List Item) → IsWithinBound problem bound pattern → (items others : List Item) → HaveSamePatterns problem bound items others
        → Generated pattern items → Generated pattern others
    same-pattern pattern allowed items others same is = ((same pattern).0 (record { generated = is; within = allowed })).generated

    same-behind : (prefix items others : List Item) → HaveSamePatterns problem bound items others
        → HasPatternBehind (data_of problem) (IsWithinBound problem bound) prefix items → HasPatternBehind (data_of problem) (IsWithinBound problem bound) prefix others
    same-behind prefix items others same (more, is, within) = (more, same-pattern (prefix ++ more) within items others same is, within)

    same-chosen : (is_chosen : List Item → Bool) (items others : List Item) → HaveSamePatterns problem bound items others
        → HasChosen problem bound is_chosen items → HasChosen problem bound is_chosen others
    same-chosen is_chosen items others same (pattern, is, chosen) = (pattern, (same pattern).0 is, chosen)

    module _ (sequences entries : List (Sequence Item)) (are : AreEntries problem bound sequences entries) where
      pub count-support : (pattern : List Item) → IsWithinBound problem bound pattern → (n : ℕ)
          → HasSupport problem.hierarchy.links (tree_of problem.transducer.expression) entries pattern n
          ↔ HasSupport problem.hierarchy.links (tree_of problem.transducer.expression) sequences pattern n
      count-support pattern allowed n = entries-count problem bound (Generated pattern) (same-pattern pattern allowed) sequences entries are n

      pub count-behind : (prefix : List Item) (n : ℕ) → Counts (HasPatternBehind (data_of problem) (IsWithinBound problem bound) prefix) entries n
          ↔ Counts (HasPatternBehind (data_of problem) (IsWithinBound problem bound) prefix) sequences n
      count-behind prefix n = entries-count problem bound (HasPatternBehind (data_of problem) (IsWithinBound problem bound) prefix) (same-behind prefix) sequences entries are n

      pub weigh-behind : (prefix : List Item) (n : ℕ) → WeighAtLeast (HasPatternBehind (data_of problem) (IsWithinBound problem bound) prefix) entries n
          ↔ WeighAtLeast (HasPatternBehind (data_of problem) (IsWithinBound problem bound) prefix) sequences n
      weigh-behind prefix n = entries-weigh problem bound (HasPatternBehind (data_of problem) (IsWithinBound problem bound) prefix) (same-behind prefix) sequences entries are n

      pub count-chosen : (is_chosen : List Item → Bool) (n : ℕ) → Counts (HasChosen problem bound is_chosen) entries n ↔ Counts (HasChosen problem bound is_chosen) sequences n
      count-chosen is_chosen n = entries-count problem bound (HasChosen problem bound is_chosen) (same-chosen is_chosen) sequences entries are n

  -- ---- the part of a complete seed

  module _ (seed : PartSeed) (complete : IsComplete problem seed) (bound : Bound) (of_pivot : IsBoundOf problem (pivot_of seed.pivot) bound)
      (entries : List (Sequence Item)) (are : AreEntries problem bound (map (λ i. sequence_at problem.sequences i) seed.sequences.items) entries) where
    abbrev Within : List Item → Type 0
    Within = IsWithinPivot problem.ranking.order (pivot_of seed.pivot)

    abbrev of_part : List (Sequence Item)
    of_part = map (λ i. sequence_at problem.sequences i) seed.sequences.items

    below : (i : ℕ) → Contains seed.sequences.items i → i < length problem.sequences
    below i held = ((complete.exact i).0 held).0

    held : (Has : List Item → Type 0) → ((items : List Item) → Has items → HasPatternBehind (data_of problem) Within [] items)
        → (i : ℕ) → i < length problem.sequences → Has (items_of problem i) → Contains seed.sequences.items i
    held Has follows i inside has = (complete.exact i).1 (inside, follows (items_of problem i) has)

    pub part-support : (pattern : List Item) → Within pattern → (n : ℕ)
        → HasSupport problem.hierarchy.links (tree_of problem.transducer.expression) entries pattern n
        ↔ HasSupport problem.hierarchy.links (tree_of problem.transducer.expression) problem.sequences pattern n
    part-support pattern within n =
        let over = count-support bound of_part entries are pattern ((of_pivot pattern).1 within) n in
        let all = Counts-part (Generated pattern) problem.sequences seed.sequences.items complete.rising below (held (Generated pattern) (λ items is. (pattern, is, within))) n in
        ((λ counted. all.0 (over.0 counted)), (λ counted. over.1 (all.1 counted)))

    same-bound : (prefix items : List Item) → HasPatternBehind (data_of problem) (IsWithinBound problem bound) prefix items ↔ HasPatternBehind (data_of problem) Within prefix items
    same-bound prefix items = (
      (λ (more, is, allowed). (more, is, (of_pivot (prefix ++ more)).0 allowed)),
      (λ (more, is, within). (more, is, (of_pivot (prefix ++ more)).1 within)),
    )

    other-bound : (prefix items : List Item) → HasPatternBehind (data_of problem) Within prefix items ↔ HasPatternBehind (data_of problem) (IsWithinBound problem bound) prefix items
    other-bound prefix items = ((same-bound prefix items).1, (same-bound prefix items).0)

    pub part-behind : (prefix : List Item) (n : ℕ) → Counts (HasPatternBehind (data_of problem) Within prefix) entries n
        ↔ Counts (HasPatternBehind (data_of problem) Within prefix) problem.sequences n
    part-behind prefix n =
        let Has : List Item → Type 0 = HasPatternBehind (data_of problem) Within prefix in
        let Also : List Item → Type 0 = HasPatternBehind (data_of problem) (IsWithinBound problem bound) prefix in
        let over = count-behind bound of_part entries are prefix n in
        let all = Counts-part Has problem.sequences seed.sequences.items complete.rising below (held Has (λ items (more, is, within). (prefix ++ more, is, within))) n in (
          (λ counted. all.0 (Counts-by Also Has (same-bound prefix) of_part n (over.0 (Counts-by Has Also (other-bound prefix) entries n counted)))),
          (λ counted. Counts-by Also Has (same-bound prefix) entries n (over.1 (Counts-by Has Also (other-bound prefix) of_part n (all.1 counted)))),
        )

    pub part-enough : (prefix : List Item) (n : ℕ) → WeighAtLeast (HasPatternBehind (data_of problem) Within prefix) problem.sequences n
        → WeighAtLeast (HasPatternBehind (data_of problem) Within prefix) entries n
    part-enough prefix n weigh =
        let Has : List Item → Type 0 = HasPatternBehind (data_of problem) Within prefix in
        let Also : List Item → Type 0 = HasPatternBehind (data_of problem) (IsWithinBound problem bound) prefix in
        let here = WeighAtLeast-part Has problem.sequences seed.sequences.items complete.rising below (held Has (λ items (more, is, within). (prefix ++ more, is, within))) n weigh in
        WeighAtLeast-weaker Also Has (λ items. (same-bound prefix items).0) entries n
        ((weigh-behind bound of_part entries are prefix n).1 (WeighAtLeast-weaker Has Also (λ items. (same-bound prefix items).1) of_part n here))
