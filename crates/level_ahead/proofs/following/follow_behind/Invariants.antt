use Rattle.std.proofs.Common.{◌≡◌, ◌-◌, ◌<◌, ◌≤◌, List, length}
use Rattle.std.specs.List.{slice_index}
use Rattle.place_walk.specs.declared.visit.Visit.{Visit}
use Rattle.place_walk.specs.Courses.{course_of}
use Rattle.place_walk.specs.Ways.{IsOnWay}
use Rattle.level_ahead.specs.Following.{HasEnded}
use Rattle.level_ahead.proofs.FollowLemmas.{alone}
use Rattle.level_ahead.proofs.following.follow_behind.Given as goal

-- all places before this one were read
abbrev pub invariant-places : goal.invariant-places
invariant-places g l = record {
  rows : l.memo.rows ≡ l.fn.memo.rows;
  moves : l.memo.moves ≡ l.fn.memo.moves;
  inside : l.place ≤ l.end;
  number : l.set < length l.memo.sets;
  found : (here : List Visit) × IsOnWay (course_of l.fn.memo l.places) (alone l.fn.visit) 1 l.place (slice_index l.memo.sets l.set) here × HasEnded (g.T.Outputs.ranks l.table) l.lacking here 0 l.ranks;
}

abbrev pub decreases-places : goal.decreases-places
decreases-places g l = l.end - l.place
