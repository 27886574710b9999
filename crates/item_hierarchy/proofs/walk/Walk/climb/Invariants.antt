use Rattle.std.proofs.Common.{◌≡◌, length}
use Rattle.mine_model.specs.declared.item.Item.{Item}
use Rattle.item_hierarchy.specs.declared.walk.Mark.TheVariants.{New}
use Rattle.item_hierarchy.specs.Walking.{IsMarked, Walks, steps_left}
use Rattle.item_hierarchy.proofs.walk.Walk.climb.Given as goal

abbrev pub invariant-loop-top : goal.invariant-loop-top
invariant-loop-top l = record {
  size : length l.self.marks.items ≡ length l.fn.self.marks.items;
  walks : Walks (length l.fn.self.marks.items) l.starts l.rows l.line l.self.marks.items l.self.next.items l.self.open_items.items l.self.order.items;
  fewer : (t : Item) → IsMarked l.self.marks.items t New → IsMarked l.initial.self.marks.items t New;
}

abbrev pub decreases-loop-top : goal.decreases-loop-top
decreases-loop-top l = steps_left l.self.marks.items l.self.open_items.items
