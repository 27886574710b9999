use Rattle.std.proofs.Common.{◌≡◌, ◌≤◌, ◌∷◌, ◌++◌, length, take}
use Rattle.std.specs.List.{flat_map}
use Rattle.mine_model.specs.Bytes.{space}
use Rattle.mine_model.specs.Names.{name_of}
use Rattle.pattern_writer.specs.Written.{IsHeld}
use Rattle.pattern_writer.proofs.writing.put_others.Given as goal

abbrev pub invariant-loop-item : goal.invariant-loop-item
invariant-loop-item g l = record {
  within : l.held ≤ length l.room;
  text : IsHeld (g.O.Sink.written l.initial.out) (g.O.Sink.written l.out) (take l.held l.room)
      (take l.filled l.initial.room ++ flat_map (λ item. space ∷ name_of l.names item) (take l.item-index l.items));
  passed : g.O.Sink.faults l.out ≡ g.O.Sink.faults l.initial.out;
}
