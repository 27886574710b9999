use Rattle.std.proofs.Common.{ℕ, ◌+◌, ◌<◌, get_or}
use Rattle.mine_model.specs.declared.item.Item.{Item}
use Rattle.item_hierarchy.proofs.ancestors.is_rising.Given as goal

abbrev pub invariant-loop-i : goal.invariant-loop-i
invariant-loop-i l = (k : ℕ) (d : Item) → k + 1 < l.i → (get_or l.items k d).0 < (get_or l.items (k + 1) d).0
