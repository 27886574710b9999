use Rattle.std.proofs.Common.{◌≡◌, ℕ, ◌-◌, ◌<◌, ◌≤◌, false, length, Some}
use Rattle.std.specs.List.{slice_get}
use Rattle.place_walk.specs.declared.visit.Visit.{Visit}
use Rattle.stand_sums.proofs.sequences.sequence_end.Given as goal

abbrev pub invariant-visits : goal.invariant-visits
invariant-visits l = record {
  some : l.from < l.end;
  within : l.end ≤ length l.visits;
  here : (k : ℕ) (visit : Visit) → l.from < k → k < l.end → slice_get l.visits k ≡ Some visit → visit.first ≡ false;
}

abbrev pub decreases-visits : goal.decreases-visits
decreases-visits l = length l.visits - l.end
