use Rattle.std.proofs.Common.{◌≤◌, ◌<◌, ◌↔◌}
use Rattle.std.specs.List.{slice_index, AllPairs, Contains}
use Rattle.mine_model.specs.declared.item.Item.{Item}
use Rattle.frequency_list.proofs.ranking.frequent.Given as goal

abbrev pub invariant-loop-number : goal.invariant-loop-number
invariant-loop-number l = record {
  exact : (w : Item) → Contains l.items.items w ↔ ((w.0 < l.number) × (l.threshold ≤ slice_index l.frequencies w.0));
  rises : AllPairs (λ v w. v.0 < w.0) l.items.items;
}
