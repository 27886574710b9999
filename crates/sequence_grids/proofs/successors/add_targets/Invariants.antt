use Rattle.sequence_grids.proofs.SuccessorLemmas.{AreAdded}
use Rattle.sequence_grids.proofs.successors.add_targets.Given as goal

abbrev pub invariant-loop-edge : goal.invariant-loop-edge
invariant-loop-edge g l = AreAdded l.edge-items l.initial.targets l.targets l.edge-index
