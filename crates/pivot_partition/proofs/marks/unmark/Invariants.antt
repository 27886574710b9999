use Rattle.std.proofs.Common.{◌≡◌, length}
use Rattle.pivot_partition.proofs.MarkLemmas.{AreStill}
use Rattle.pivot_partition.proofs.marks.unmark.Given as goal

abbrev pub invariant-loop-rank : goal.invariant-loop-rank
invariant-loop-rank l = record {
  still : AreStill l.marks l.found l.rank-index;
  long : length l.marks ≡ length l.fn.marks;
}
