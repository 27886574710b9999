use Rattle.std.proofs.Common.{◌≡◌, ℕ, ◌≤◌, ◌+◌, ◌-◌, ◌++◌, length, take}
use Rattle.pattern_writer.specs.Written.{IsHeld}
use Rattle.pattern_writer.proofs.writing.put.Given as goal

abbrev pub invariant-loop-room : goal.invariant-loop-room
invariant-loop-room g l = record {
  within : l.held ≤ length l.room;
  inside : l.at ≤ length l.bytes;
  text : IsHeld (g.O.Sink.written l.initial.out) (g.O.Sink.written l.out) (take l.held l.room)
      (take l.filled l.initial.room ++ take l.at l.bytes);
  passed : g.O.Sink.faults l.out ≡ g.O.Sink.faults l.initial.out;
}

abbrev pub decreases-loop-room : goal.decreases-loop-room
decreases-loop-room g l = (length l.bytes - l.at) + l.held
