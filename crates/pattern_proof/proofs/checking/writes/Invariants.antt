use Rattle.std.proofs.Common.{◌-◌, ◌≤◌, ◌↔◌, length, drop}
use Rattle.pattern_proof.specs.Reading.{numbers_of}
use Rattle.pattern_proof.specs.Steps.{IsRun}
use Rattle.pattern_proof.proofs.checking.writes.Given as goal

abbrev pub invariant-loop-at : goal.invariant-loop-at
invariant-loop-at l = record {
  within : l.at ≤ length l.items;
  state : l.state.0 ≤ length l.fst.labels;
  same : IsRun l.hierarchy.links l.fst 0 (numbers_of l.path) l.items l.pattern
      ↔ IsRun l.hierarchy.links l.fst l.state.0 (numbers_of (drop l.at l.path)) (drop l.at l.items) l.rest;
}

abbrev pub decreases-loop-at : goal.decreases-loop-at
decreases-loop-at l = length l.items - l.at
