use Rattle.std.proofs.Common.{◌≡◌, ◌≤◌, length}
use Rattle.std.specs.List.{slice_index}
use Rattle.pivot_partition.specs.Tops.{GoesUpTo}
use Rattle.pivot_partition.proofs.RowLemmas.{IsWrittenSoFar}
use Rattle.pivot_partition.proofs.table.enter.Given as goal

abbrev pub invariant-loop-state : goal.invariant-loop-state
invariant-loop-state l = record {
  long : length l.entered ≡ length l.fn.entered;
  least : IsWrittenSoFar (λ state p. GoesUpTo l.reading state p × (slice_index l.below state ≤ p)) l.entered l.state;
}
