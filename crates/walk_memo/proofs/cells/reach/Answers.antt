use Rattle.walk_memo.proofs.CellLemmas.{filled-push}
use Rattle.walk_memo.proofs.cells.reach.Goals as goal

pub reached-preserved : goal.reached-preserved
reached-preserved g c i v is = c.reached.invariant i v (filled-push c.reached.cells.items i v (rw c.in_ok-push.ensures.items at is))
