use Rattle.sequence_grids.proofs.SetLemmas.{IsTakenSoFar-none}
use Rattle.sequence_grids.proofs.table.finals_of.Goals as goal

pub loop-q-init : goal.loop-q-init
loop-q-init g c = rw c.new-finals.ensures (IsTakenSoFar-none c.args.fst.now.finals)
