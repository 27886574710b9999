use Rattle.std.proofs.Common.{◌≡◌, ℕ, ◌<◌}
use Rattle.std.specs.List.{slice_index}
use Rattle.pivot_partition.specs.Tops.{no_rank}
use Rattle.pivot_partition.proofs.edges.clear.Given as goal

abbrev pub invariant-loop-top : goal.invariant-loop-top
invariant-loop-top l = (k : ℕ) → k < l.top-index → slice_index l.row k ≡ no_rank
