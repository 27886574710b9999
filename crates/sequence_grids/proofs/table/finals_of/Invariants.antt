use Rattle.sequence_grids.proofs.SetLemmas.{IsTakenSoFar}
use Rattle.sequence_grids.proofs.table.finals_of.Given as goal

abbrev pub invariant-loop-q : goal.invariant-loop-q
invariant-loop-q g l = IsTakenSoFar l.finals l.fst.finals l.q
