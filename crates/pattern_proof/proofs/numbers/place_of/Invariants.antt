use Rattle.std.proofs.Common.{◌-◌, ◌≤◌, length, take}
use Rattle.pattern_proof.specs.Pieces.{IsWithout}
use Rattle.pattern_proof.proofs.numbers.place_of.Given as goal

abbrev pub invariant-loop-end : goal.invariant-loop-end
invariant-loop-end l = record {
  within : l.end ≤ length l.text;
  before : IsWithout l.byte (take l.end l.text);
}

abbrev pub decreases-loop-end : goal.decreases-loop-end
decreases-loop-end l = length l.text - l.end
