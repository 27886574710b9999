use Rattle.std.proofs.Common.{◌≡◌, ◌≤◌, ◌++◌, [], length, take}
use Rattle.std.specs.List.{flat_map}
use Rattle.mine_model.specs.AnswerText.{line_of}
use Rattle.mine_model.specs.Names.{named_row}
use Rattle.pattern_writer.specs.Written.{IsHeld}
use Rattle.pattern_writer.proofs.writing.write.Given as goal

abbrev pub invariant-loop-row : goal.invariant-loop-row
invariant-loop-row g l = record {
  within : l.held ≤ length l.room;
  text : IsHeld (g.O.Sink.written l.initial.out) (g.O.Sink.written l.out) (take l.held l.room)
      (flat_map (λ row. line_of (named_row l.names row)) (take l.row-index l.rows));
  passed : g.O.Sink.faults l.out ≡ g.O.Sink.faults l.initial.out;
}
