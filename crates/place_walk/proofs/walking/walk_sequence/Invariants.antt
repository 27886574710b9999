use Rattle.std.proofs.Common.{◌≡◌, ◌-◌, ◌≤◌, ◌<◌, List, ◌++◌, length}
use Rattle.std.specs.List.{slice_index}
use Rattle.place_walk.specs.declared.visit.Visit.{Visit}
use Rattle.place_walk.specs.Courses.{course_of}
use Rattle.place_walk.specs.Ways.{IsOnWay}
use Rattle.place_walk.proofs.walking.walk_sequence.Given as goal

abbrev pub invariant-places : goal.invariant-places
invariant-places g l = record {
  rows : l.memo.rows ≡ l.initial.memo.rows;
  moves : l.memo.moves ≡ l.initial.memo.moves;
  inside : l.place ≤ l.end;
  taken : l.taken ≤ length l.group;
  number : l.set < length l.memo.sets;
  found : (here : List Visit) × (l.visits.items ≡ l.initial.visits.items ++ here) × IsOnWay (course_of l.initial.memo l.places) l.group l.taken l.place (slice_index l.memo.sets l.set) here;
}

abbrev pub decreases-places : goal.decreases-places
decreases-places g l = l.end - l.place
