use Rattle.std.proofs.Common.{◌≡◌, ℕ, ◌<◌, ◌≤◌, ◌⊎◌, ◌↔◌, length}
use Rattle.std.specs.List.{slice_index, Contains}
use Rattle.sequence_grids.specs.Readings.{outputs_at}
use Rattle.pivot_partition.specs.Tops.{no_rank, GoesUpTo}
use Rattle.pivot_partition.specs.Marks.{AreMarked}
use Rattle.pivot_partition.proofs.RowLemmas.{IsWrittenSoFar}
use Rattle.pivot_partition.proofs.finding.pass.Given as goal

abbrev pub invariant-loop-state : goal.invariant-loop-state
invariant-loop-state l = record {
  front_long : length l.front ≡ length l.fn.front;
  marks_long : length l.marks ≡ length l.fn.marks;
  marked : AreMarked l.marks l.found.items;
  found : (rank : ℕ) → rank < no_rank → Contains l.found.items rank ↔ (Contains l.fn.found.items rank ⊎ ((state : ℕ) × (1 ≤ state) × (state < l.state)
      × (slice_index l.entered state ≤ rank) × (slice_index l.below state ≤ rank) × Contains (outputs_at l.reading state) rank));
  start : slice_index l.front 0 ≡ no_rank;
  least : IsWrittenSoFar (λ state p. GoesUpTo l.reading state p × (slice_index l.entered state ≤ p)) l.front l.state;
}
