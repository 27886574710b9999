use Rattle.std.proofs.Common.{rules}
use Rattle.std.proofs.lemmas.List.Sorted.{IsNonDecreasingBy-from_sort_by_key}
use Rattle.mine_model.specs.declared.item.Item.{Item}
use Rattle.mine_model.proofs.ApartLemmas.{item_eq-Decides, apart_by_permutation}
use Rattle.item_hierarchy.proofs.GatheringLemmas.{rising_from_sorted}
use Rattle.item_hierarchy.proofs.ancestors.sort.Goals as goal

pub returns-then-not-is_rising-clause-rising : goal.returns-then-not-is_rising-clause-rising
returns-then-not-is_rising-clause-rising c =
    rising_from_sorted c.sort_unstable_by_key.new.self.items
    (IsNonDecreasingBy-from_sort_by_key (λ (w : Item). w.0) _ c.sort_unstable_by_key.ensures.sorted (λ a r q k. search rules))
    (apart_by_permutation item_eq-Decides _ _ c.sort_unstable_by_key.ensures.permutation c.requires)
