use Rattle.mining_job.specs.declared.bound.Bound.{Bound}
use Rattle.snapshot_project.proofs.BeginLemmas.{AreWeightsBefore}
use Rattle.snapshot_project.proofs.beginning.weights_of.Given as goal

-- the places of the sequences so far have their weights
abbrev pub invariant-loop-number : goal.invariant-loop-number
invariant-loop-number l = (bound : Bound) → AreWeightsBefore (record { problem = l.job; bound = bound; sequences = l.sequences }) l.number-index l.weights.items
