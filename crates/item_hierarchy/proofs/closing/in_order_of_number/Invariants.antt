use Rattle.item_hierarchy.proofs.ClosingLemmas.{AreOrdered}
use Rattle.item_hierarchy.proofs.closing.in_order_of_number.Given as goal

abbrev pub invariant-loop-part : goal.invariant-loop-part
invariant-loop-part l = AreOrdered l.parts l.lists l.part-index l.ends.items l.ordered.items
