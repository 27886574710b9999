use Rattle.std.proofs.Common.{◌≡◌, length}
use Rattle.sequence_grids.specs.Grids.{items_at}
use Rattle.pivot_partition.specs.Tops.{IsTableFrom}
use Rattle.pivot_partition.proofs.table.fill_table.Given as goal

abbrev pub invariant-loop-position : goal.invariant-loop-position
invariant-loop-position l = record {
  long : length l.entered ≡ length l.fn.entered;
  table : IsTableFrom l.job (items_at l.grids 0) l.position l.table.items;
}

abbrev pub decreases-loop-position : goal.decreases-loop-position
decreases-loop-position l = l.position
