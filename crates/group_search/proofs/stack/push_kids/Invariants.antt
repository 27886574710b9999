use Rattle.std.proofs.Common.{length}
use Rattle.group_search.proofs.StackLemmas.{IsGoingOn}
use Rattle.group_search.proofs.stack.push_kids.Given as goal

abbrev pub invariant-ranks : goal.invariant-ranks
invariant-ranks l = IsGoingOn l.threshold l.fn.stack l.steps l.left l.stack

abbrev pub decreases-ranks : goal.decreases-ranks
decreases-ranks l = length l.left
