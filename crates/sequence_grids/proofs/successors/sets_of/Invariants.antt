use Rattle.sequence_grids.proofs.SuccessorLemmas.{AreFirst}
use Rattle.sequence_grids.proofs.successors.sets_of.Given as goal

abbrev pub invariant-loop-state : goal.invariant-loop-state
invariant-loop-state g l = AreFirst l.fst l.sets.items l.state
