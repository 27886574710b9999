use Rattle.item_hierarchy.proofs.GatheringLemmas.{Gathers}
use Rattle.item_hierarchy.proofs.ancestors.gather.Given as goal

abbrev pub invariant-loop-w : goal.invariant-loop-w
invariant-loop-w l = Gathers l.stamp l.room l.list l.w-index l.fn.seen.items l.fn.gathered.items l.seen.items l.gathered.items
