use Rattle.std.proofs.Common.{◌≡◌, ◌++◌, map, take}
use Rattle.sequence_reader.specs.Taking.{numbers_below, renumbered}
use Rattle.sequence_reader.proofs.joining.renumber.Given as goal

abbrev pub invariant-loop-item : goal.invariant-loop-item
invariant-loop-item l = record {
  items : l.items.items ≡ map (renumbered (numbers_below l.piece.known ++ l.piece.own.items)) (take l.item-index l.sequence);
}
