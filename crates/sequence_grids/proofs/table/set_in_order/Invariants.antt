use Rattle.std.proofs.Common.{◌≡◌, take}
use Rattle.sequence_grids.proofs.table.set_in_order.Given as goal

abbrev pub invariant-loop-one : goal.invariant-loop-one
invariant-loop-one g l = l.set.keys ≡ take l.one-index l.list
