use Rattle.std.proofs.Common.{◌≡◌, ◌⊎◌, ◌↔◌, ◌≤◌, ℕ, take, length, Contains}
use Rattle.pivot_partition.specs.Marks.{AreMarked}
use Rattle.pivot_partition.proofs.marks.mark_from.Given as goal

abbrev pub invariant-loop-rank : goal.invariant-loop-rank
invariant-loop-rank l = record {
  marked : AreMarked l.marks l.found.items;
  long : length l.marks ≡ length l.fn.marks;
  found : (rank : ℕ) → Contains l.found.items rank ↔ (Contains l.fn.found.items rank ⊎ (Contains (take l.rank-index l.ranks) rank × (l.least ≤ rank)));
}
