use Rattle.std.proofs.Common.{◌≡◌, ◌-◌, ◌≤◌, List, length, drop}
use Rattle.place_walk.specs.declared.stand.Stand.{Stand}
use Rattle.place_walk.specs.Courses.{course_of}
use Rattle.place_walk.specs.Groups.{AreGroups}
use Rattle.place_records.specs.Ranks.{ranks_of}
use Rattle.snapshot_project.specs.Founds.{AreSummed}
use Rattle.snapshot_project.proofs.growing.count_rest.Given as goal

abbrev pub invariant-walks : goal.invariant-walks
invariant-walks g l = record {
  rows : l.memo.rows ≡ l.initial.memo.rows;
  moves : l.memo.moves ≡ l.initial.memo.moves;
  sums : length l.tables.sums ≡ length l.initial.tables.sums;
  files : l.tables.files ≡ l.initial.tables.files;
  within : l.next ≤ length l.stands;
  summed : (groups : List (List Stand)) → AreGroups l.stands groups
      → AreSummed (course_of l.initial.memo l.over.records.places) (ranks_of l.over.records.table) l.aim l.weights groups (drop l.next l.stands) l.tables.sums;
}

abbrev pub decreases-walks : goal.decreases-walks
decreases-walks g l = length l.stands - l.next
