use Rattle.std.proofs.Common.{◌≡◌, length}
use Rattle.sequence_grids.specs.Grids.{items_at}
use Rattle.pivot_partition.specs.Marks.{AreMarked}
use Rattle.pivot_partition.specs.Tops.{row_at}
use Rattle.pivot_partition.proofs.FrontLemmas.{AreFoundSoFar}
use Rattle.pivot_partition.proofs.finding.find.Given as goal

abbrev pub invariant-loop-position : goal.invariant-loop-position
invariant-loop-position l = record {
  front_long : length l.front ≡ length l.fn.front;
  entered_long : length l.entered ≡ length l.fn.entered;
  marks_long : length l.marks ≡ length l.fn.marks;
  marked : AreMarked l.marks l.found.items;
  row : l.row ≡ row_at l.job (items_at l.grids 0) l.position;
  found : AreFoundSoFar l.job (items_at l.grids 0) l.front l.found.items l.position;
}
