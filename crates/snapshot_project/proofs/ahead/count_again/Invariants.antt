use Rattle.std.proofs.Common.{◌≡◌, ◌-◌, ◌≤◌, List, length, drop}
use Rattle.place_walk.specs.declared.stand.Stand.{Stand}
use Rattle.place_walk.specs.Courses.{course_of}
use Rattle.place_walk.specs.Groups.{AreGroups}
use Rattle.mask_sums.specs.Kept.{lacking}
use Rattle.level_ahead.specs.Counts.{asked_of}
use Rattle.place_records.specs.Ranks.{ranks_of}
use Rattle.snapshot_project.proofs.LookLemmas.{AreAheadTo}
use Rattle.snapshot_project.proofs.ahead.count_again.Given as goal

abbrev pub invariant-walks : goal.invariant-walks
invariant-walks g l = record {
  rows : l.memo.rows ≡ l.initial.memo.rows;
  moves : l.memo.moves ≡ l.initial.memo.moves;
  sums : l.tables.sums ≡ l.initial.tables.sums;
  files : l.tables.files ≡ l.initial.tables.files;
  within : l.from ≤ length l.stands;
  asked : asked_of l.tables.ahead ≡ asked_of l.initial.tables.ahead;
  added : (groups : List (List Stand)) → AreGroups l.stands groups
      → AreAheadTo (course_of l.initial.memo l.over.records.places) (ranks_of l.over.records.table) (lacking l.aim) groups (drop l.from l.stands) l.initial.tables.ahead l.tables.ahead;
}

abbrev pub decreases-walks : goal.decreases-walks
decreases-walks g l = length l.stands - l.from
