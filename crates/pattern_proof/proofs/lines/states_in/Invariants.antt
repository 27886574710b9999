use Rattle.std.proofs.Common.{◌≡◌, ℕ, ◌-◌, ◌≤◌, List, ◌++◌, length, drop}
use Rattle.pattern_proof.specs.Pieces.{BeginsWith}
use Rattle.pattern_proof.specs.ProofLines.{spaced, AreDecimals}
use Rattle.pattern_proof.specs.Reading.{numbers_of}
use Rattle.pattern_proof.proofs.lines.states_in.Given as goal

abbrev pub invariant-loop-at : goal.invariant-loop-at
invariant-loop-at l = record {
  within : l.at ≤ length l.text;
  begins : BeginsWith 32 (drop l.at l.text);
  said : (words : List (List ℕ)) × AreDecimals words (numbers_of l.states.items)
      × (l.text ≡ spaced words ++ drop l.at l.text);
}

abbrev pub decreases-loop-at : goal.decreases-loop-at
decreases-loop-at l = length l.text - l.at
