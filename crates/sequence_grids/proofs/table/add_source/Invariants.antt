use Rattle.sequence_grids.proofs.SetLemmas.{IsAddedSoFar}
use Rattle.sequence_grids.proofs.table.add_source.Given as goal

abbrev pub invariant-loop-edge : goal.invariant-loop-edge
invariant-loop-edge g l = IsAddedSoFar l.initial.predecessors l.predecessors l.edges l.q l.edge-index
