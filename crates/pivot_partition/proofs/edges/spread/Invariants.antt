use Rattle.std.proofs.Common.{◌≡◌, length}
use Rattle.pivot_partition.proofs.EdgeLemmas.{AreSpreadSoFar}
use Rattle.pivot_partition.proofs.edges.spread.Given as goal

abbrev pub invariant-loop-state : goal.invariant-loop-state
invariant-loop-state l = record {
  long : length l.entered ≡ length l.fn.entered;
  spread : AreSpreadSoFar l.fst l.front l.state l.entered;
}
