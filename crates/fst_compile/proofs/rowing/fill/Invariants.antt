use Rattle.fst_compile.proofs.TransducerLemmas.{IsFilledSoFar}
use Rattle.fst_compile.proofs.rowing.fill.Given as goal

abbrev pub invariant-loop-state : goal.invariant-loop-state
invariant-loop-state l = IsFilledSoFar l.labels l.row l.edges.items l.yielded l.state-iterator
