use Rattle.std.proofs.Common.{◌≡◌, ◌≤◌, ◌∷◌, ◌++◌, length, take}
use Rattle.std.specs.Fmt.{decimal}
use Rattle.std.specs.List.{flat_map}
use Rattle.pattern_writer.specs.Written.{IsHeld}
use Rattle.pattern_proof.proofs.putting.put_states.Given as goal

abbrev pub invariant-loop-state : goal.invariant-loop-state
invariant-loop-state g l = record {
  within : l.held ≤ length l.text;
  text : IsHeld (g.O.Sink.written l.initial.out) (g.O.Sink.written l.out) (take l.held l.text)
      (take l.filled l.initial.text ++ flat_map (λ state. 32 ∷ decimal state.0) (take l.state-index l.states));
  passed : g.O.Sink.faults l.out ≡ g.O.Sink.faults l.initial.out;
}
