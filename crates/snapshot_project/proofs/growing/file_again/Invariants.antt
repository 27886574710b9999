use Rattle.std.proofs.Common.{◌≡◌, ◌-◌, ◌≤◌, List, length, drop}
use Rattle.place_walk.specs.declared.stand.Stand.{Stand}
use Rattle.place_walk.specs.Courses.{course_of}
use Rattle.place_walk.specs.Groups.{AreGroups}
use Rattle.place_records.specs.Ranks.{ranks_of}
use Rattle.snapshot_project.proofs.WalkedLemmas.{AreFiledTo}
use Rattle.snapshot_project.proofs.growing.file_again.Given as goal

abbrev pub invariant-walks : goal.invariant-walks
invariant-walks g l = record {
  rows : l.memo.rows ≡ l.initial.memo.rows;
  moves : l.memo.moves ≡ l.initial.memo.moves;
  sums : l.tables.sums ≡ l.initial.tables.sums;
  room : l.tables.files.room ≡ l.initial.tables.files.room;
  ahead : l.tables.ahead ≡ l.initial.tables.ahead;
  within : l.from ≤ length l.stands;
  filed : (groups : List (List Stand)) → AreGroups l.stands groups
      → AreFiledTo (course_of l.initial.memo l.over.records.places) (ranks_of l.over.records.table) l.aim l.found groups (drop l.from l.stands) l.tables.files.filed;
}

abbrev pub decreases-walks : goal.decreases-walks
decreases-walks g l = length l.stands - l.from
