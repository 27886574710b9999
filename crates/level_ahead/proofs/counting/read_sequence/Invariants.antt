use Rattle.std.proofs.Common.{◌≡◌, ℕ, ◌-◌, ◌<◌, ◌≤◌, false, length, Some}
use Rattle.std.specs.List.{slice_get, slice_range}
use Rattle.place_walk.specs.declared.visit.Visit.{Visit}
use Rattle.place_walk.specs.Courses.{course_of}
use Rattle.level_ahead.proofs.AddLemmas.{AreRead}
use Rattle.level_ahead.proofs.counting.read_sequence.Given as goal

-- the visits up to the end are of one sequence, and were read
abbrev pub invariant-visits : goal.invariant-visits
invariant-visits g l = record {
  rows : l.memo.rows ≡ l.fn.memo.rows;
  moves : l.memo.moves ≡ l.fn.memo.moves;
  sets : length l.gathered.sets.items ≡ length l.fn.gathered.sets.items;
  forward : l.from ≤ l.end;
  within : l.end ≤ length l.visits;
  here : (k : ℕ) (visit : Visit) → l.from < k → k < l.end → slice_get l.visits k ≡ Some visit → visit.first ≡ false;
  read : AreRead (course_of l.fn.memo l.places) (g.T.Outputs.ranks l.table) l.lacking l.asked (slice_range l.visits l.from l.end) l.gathered;
}

abbrev pub decreases-visits : goal.decreases-visits
decreases-visits g l = length l.visits - l.end
