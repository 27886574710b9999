use Rattle.state_bits.proofs.NeighbourLemmas.{AreNeighboursSoFar}
use Rattle.state_bits.proofs.rows.neighbours.Given as goal

abbrev pub invariant-loop-state : goal.invariant-loop-state
invariant-loop-state g l = AreNeighboursSoFar l.rows l.states l.found l.yielded l.state-iterator
