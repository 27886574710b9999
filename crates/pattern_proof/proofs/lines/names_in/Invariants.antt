use Rattle.std.proofs.Common.{◌≡◌, ◌+◌, ◌-◌, ◌≤◌, ◌∷◌, ◌++◌, length, drop, map}
use Rattle.std.specs.List.{AllByRecursion}
use Rattle.mine_model.specs.Names.{name_of, HasName}
use Rattle.pattern_proof.specs.Pieces.{BeginsWith}
use Rattle.pattern_proof.specs.ProofLines.{spaced}
use Rattle.pattern_proof.proofs.lines.names_in.Given as goal

abbrev pub invariant-loop-from : goal.invariant-loop-from
invariant-loop-from l = record {
  within : l.from ≤ length l.text + 1;
  begins : BeginsWith 32 (drop l.from (32 ∷ l.text));
  named : AllByRecursion (HasName l.names) l.items.items;
  said : 32 ∷ l.text ≡ spaced (map (name_of l.names) l.items.items) ++ drop l.from (32 ∷ l.text);
}

abbrev pub decreases-loop-from : goal.decreases-loop-from
decreases-loop-from l = length l.text + 1 - l.from
