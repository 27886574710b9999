use Rattle.std.proofs.Common.{◌≡◌, ◌<◌, [], length}
use Rattle.mine_model.specs.declared.item.Item.{Item}
use Rattle.item_hierarchy.specs.declared.walk.Mark.TheVariants.{New}
use Rattle.item_hierarchy.specs.Walking.{IsMarked, Walks}
use Rattle.item_hierarchy.proofs.walk.parents_first.Given as goal

abbrev pub invariant-loop-number : goal.invariant-loop-number
invariant-loop-number l = record {
  size : length l.walk.marks.items ≡ l.items;
  walks : Walks l.items l.starts l.rows l.line l.walk.marks.items l.walk.next.items l.walk.open_items.items l.walk.order.items;
  idle : l.walk.open_items.items ≡ [];
  none : (t : Item) → t.0 < l.number → IsMarked l.walk.marks.items t New → ⊥;
}
