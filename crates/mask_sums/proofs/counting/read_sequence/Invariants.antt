use Rattle.std.proofs.Common.{◌≡◌, ℕ, ◌-◌, ◌<◌, ◌≤◌, false, length, Some}
use Rattle.std.specs.List.{slice_get, slice_range}
use Rattle.place_walk.specs.declared.visit.Visit.{Visit}
use Rattle.stand_sums.specs.Writings.{opens, ends}
use Rattle.mask_sums.specs.Kept.{lacks, IsSetOf, HasStands}
use Rattle.mask_sums.proofs.counting.read_sequence.Given as goal

-- the visits up to the end are of one sequence, and were read
abbrev pub invariant-visits : goal.invariant-visits
invariant-visits g l = record {
  forward : l.from ≤ l.end;
  within : l.end ≤ length l.visits;
  here : (k : ℕ) (visit : Visit) → l.from < k → k < l.end → slice_get l.visits k ≡ Some visit → visit.first ≡ false;
  opened : IsSetOf (opens (g.T.Outputs.ranks l.table) (lacks l.lacking)) (slice_range l.visits l.from l.end) l.opened;
  ended : IsSetOf (ends (g.T.Outputs.ranks l.table) (lacks l.lacking)) (slice_range l.visits l.from l.end) l.ended;
  stands : HasStands (g.T.Outputs.ranks l.table) (lacks l.lacking) (slice_range l.visits l.from l.end) l.initial.stands l.stands;
}

abbrev pub decreases-visits : goal.decreases-visits
decreases-visits g l = length l.visits - l.end
