use Rattle.std.proofs.Common.{◌≡◌, length, take}
use Rattle.pivot_partition.proofs.EdgeLemmas.{AreLowered}
use Rattle.pivot_partition.proofs.edges.lower.Given as goal

abbrev pub invariant-loop-edge : goal.invariant-loop-edge
invariant-loop-edge l = record {
  long : length l.entered ≡ length l.fn.entered;
  lowered : AreLowered l.fn.entered l.top (take l.edge-index l.edges) l.entered;
}
