use Rattle.std.proofs.Common.{◌≡◌, ◌≤◌, ◌++◌, length}
use Rattle.std.specs.List.{All, flat_map}
use Rattle.text_ports.specs.Scanning.{lines_behind}
use Rattle.sequence_reader.proofs.cutting.cut.Given as goal

abbrev pub invariant-loop-rest : goal.invariant-loop-rest
invariant-loop-rest l = record {
  lines : flat_map (λ piece. lines_behind piece.now) l.pieces.items ++ lines_behind l.rest ≡ lines_behind l.bytes;
  within : All (λ piece. length piece.now ≤ length l.bytes) l.pieces.items;
  left : length l.rest ≤ length l.bytes;
}

abbrev pub decreases-loop-rest : goal.decreases-loop-rest
decreases-loop-rest l = length l.rest
