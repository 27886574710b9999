use Rattle.std.proofs.Common.{◌≡◌, ◌-◌, ◌≤◌, List, length, drop}
use Rattle.place_walk.specs.declared.stand.Stand.{Stand}
use Rattle.place_walk.specs.Courses.{course_of}
use Rattle.place_walk.specs.Groups.{AreGroups, AreWalked}
use Rattle.place_walk.proofs.walking.walk_list.Given as goal

abbrev pub invariant-groups : goal.invariant-groups
invariant-groups g l = record {
  rows : l.memo.rows ≡ l.initial.memo.rows;
  moves : l.memo.moves ≡ l.initial.memo.moves;
  forward : l.from ≤ l.next;
  within : l.next ≤ length l.stands;
  begun : l.next ≡ l.from → length l.visits.items ≡ 0;
  walked : (groups : List (List Stand)) → AreGroups (drop l.from l.stands) groups → AreWalked (course_of l.initial.memo l.places) groups (drop l.next l.stands) l.visits.items;
}

abbrev pub decreases-groups : goal.decreases-groups
decreases-groups g l = length l.stands - l.next
