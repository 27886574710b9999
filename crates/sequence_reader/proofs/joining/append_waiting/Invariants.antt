use Rattle.std.proofs.Common.{◌≡◌, ◌++◌, take}
use Rattle.sequence_reader.specs.Taking.{all_waiting}
use Rattle.sequence_reader.proofs.joining.append_waiting.Given as goal

abbrev pub invariant-loop-piece : goal.invariant-loop-piece
invariant-loop-piece l = record {
  appended : l.db ≡ l.fn.db ++ all_waiting (take l.piece-index l.waiting);
}
