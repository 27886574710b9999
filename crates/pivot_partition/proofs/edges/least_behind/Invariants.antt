use Rattle.std.proofs.Common.{take}
use Rattle.std.specs.List.{slice_index}
use Rattle.fst_compile.specs.declared.edge.Edge.{Edge}
use Rattle.pivot_partition.proofs.LeastLemmas.{IsLeastBy}
use Rattle.pivot_partition.proofs.edges.least_behind.Given as goal

abbrev pub invariant-loop-edge : goal.invariant-loop-edge
invariant-loop-edge l = IsLeastBy (λ (edge : Edge). slice_index l.entered edge.to.0) (take l.edge-index l.edges) l.least
