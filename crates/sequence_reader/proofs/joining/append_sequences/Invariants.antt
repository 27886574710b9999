use Rattle.std.proofs.Common.{◌≡◌, ◌++◌, map, take}
use Rattle.mine_model.specs.Names.{sequence_by}
use Rattle.sequence_reader.specs.Taking.{numbers_below, renumbered}
use Rattle.sequence_reader.proofs.joining.append_sequences.Given as goal

abbrev pub invariant-loop-i : goal.invariant-loop-i
invariant-loop-i l = record {
  appended : l.db ≡ l.fn.db ++ map (sequence_by (renumbered (numbers_below l.piece.known ++ l.piece.own.items))) (take l.i l.piece.db);
}
