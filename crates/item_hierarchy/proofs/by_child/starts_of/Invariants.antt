use Rattle.item_hierarchy.proofs.ByChildLemmas.{AreBelow}
use Rattle.item_hierarchy.proofs.by_child.starts_of.Given as goal

abbrev pub invariant-loop-number : goal.invariant-loop-number
invariant-loop-number l = AreBelow l.rows l.number l.starts.items l.at
