use Rattle.std.proofs.Common.{◌≡◌, ◌∙◌, ℕ, ◌<◌, ◌^◌, List, length, drop, refl, sym, subst, arith, rules}
use Rattle.std.proofs.Math.ListN.{drop_of_length-le}
use Rattle.std.specs.List.{All}
use Rattle.place_walk.specs.declared.stand.Stand.{Stand}
use Rattle.place_walk.specs.Courses.{Course, course_of}
use Rattle.place_walk.specs.Groups.{AreWalked as AreWalkedOnce}
use Rattle.place_walk.proofs.StandLemmas.{same-course}
use Rattle.stand_sums.specs.Files.{HasRoom}
use Rattle.stand_sums.specs.Writings.{IsReadable}
use Rattle.place_records.specs.Ranks.{ranks_of, CanAskOf}
use Rattle.snapshot_project.specs.Aims.{goes}
use Rattle.snapshot_project.proofs.WalkedLemmas.{course-same, ready-few, ready-moves, ready-placed, ready-states, ready-ordered, ready-readable, ready-groups, filed-none, filed-room, filed-more, filed-all}
use Rattle.snapshot_project.proofs.growing.file_again.Goals as goal

pub walks-init : goal.walks-init
walks-init g c = record {
  rows = refl;
  moves = refl;
  sums = refl;
  room = refl;
  ahead = refl;
  within = omega arith;
  filed = λ groups are.
      filed-none (course_of c.args.memo.now c.args.over.now.records.places) (ranks_of c.args.over.now.records.table) c.args.aim c.args.found.now groups c.args.stands.now are c.args.tables.now.files.filed c.requires.begun;
}

pub walk_some-requires : goal.walk_some-requires
walk_some-requires g c =
    let room : ℕ = c.args.tables.now.files.room in
    let width = c.requires.width in
    let few : length c.places.result.now < 2 ^ 32 =
    rw c.places.ensures (ready-few c.args.over.now c.args.aim c.args.stands.now room c.requires.ready) in
    let moves : All (λ entry. entry.of < length c.walks.memo.moves) c.places.result.now =
    rw (c.places.ensures, c.walks.invariant.moves, c.requires.moves)
    (ready-moves c.args.over.now c.args.aim c.args.stands.now room c.requires.ready (goes c.args.aim.seen c.args.aim.need)) in
    let states : All (λ stand. stand.state < length c.walks.memo.rows) c.args.stands.now =
    rw (c.walks.invariant.rows, c.requires.rows) (ready-states c.args.over.now c.args.aim c.args.stands.now room c.requires.ready) in
    let places : All (λ stand. stand.place < length c.places.result.now) c.args.stands.now =
    rw c.places.ensures (ready-placed c.args.over.now c.args.aim c.args.stands.now room c.requires.ready) in
    let rising = ready-ordered c.args.over.now c.args.aim c.args.stands.now room c.requires.ready in
    search rules

pub file-requires-clause-readable : goal.file-requires-clause-readable
file-requires-clause-readable g c =
    let course : Course = course_of c.args.memo.now c.args.over.now.records.places in
    let same : course_of c.walks.memo c.places.result.now ≡ course =
    rw c.places.ensures (same-course c.walks.memo c.args.memo.now c.args.over.now.records.places c.walks.invariant.rows c.walks.invariant.moves) in
    let left : List Stand = drop c.walks.from c.args.stands.now in
    let further : List Stand = drop c.in_ok-from.from c.args.stands.now in
    let readable : All (IsReadable (ranks_of c.args.over.now.records.table) (CanAskOf c.args.over.now.records.table) c.args.tables.now.files.room) c.walk_some.new.visits =
    ready-readable c.args.over.now c.args.aim c.args.stands.now c.args.tables.now.files.room c.requires.ready left further
    (λ groups are. let filed = c.walks.invariant.filed groups are in (filed.done, filed.rest, filed.cut, filed.left_are))
    course (course-same c.args.memo.now c.args.over.now.rows.items c.args.over.now.records c.args.aim c.requires.rows c.requires.moves) c.walk_some.new.visits
    (λ groups are. subst (λ (course : Course). AreWalkedOnce course groups further c.walk_some.new.visits) same (c.in_ok-from.ensures.walked groups are)) in
    rw (c.table.ensures, c.as_slice.ensures, c.walks.invariant.room) readable

pub file-requires-clause-room : goal.file-requires-clause-room
file-requires-clause-room g c =
    let course : Course = course_of c.args.memo.now c.args.over.now.records.places in
    let same : course_of c.walks.memo c.places.result.now ≡ course =
    rw c.places.ensures (same-course c.walks.memo c.args.memo.now c.args.over.now.records.places c.walks.invariant.rows c.walks.invariant.moves) in
    let left : List Stand = drop c.walks.from c.args.stands.now in
    let further : List Stand = drop c.in_ok-from.from c.args.stands.now in
    let (groups, are) = ready-groups c.args.over.now c.args.aim c.args.stands.now c.args.tables.now.files.room c.requires.ready in
    let filed = c.walks.invariant.filed groups are in
    let (all, visited, places) = c.requires.places groups are in
    let room : All (HasRoom (ranks_of c.args.over.now.records.table) c.args.aim c.walk_some.new.visits) c.walks.tables.files.filed =
    filed-room course (ranks_of c.args.over.now.records.table) c.args.aim c.args.found.now groups left further c.walks.tables.files.filed filed c.walk_some.new.visits
    (subst (λ (course : Course). AreWalkedOnce course filed.rest further c.walk_some.new.visits) same (c.in_ok-from.ensures.walked filed.rest filed.left_are))
    all visited places in
    rw (c.table.ensures, c.as_slice.ensures) room

pub walks-preserved : goal.walks-preserved
walks-preserved g c =
    let course : Course = course_of c.args.memo.now c.args.over.now.records.places in
    let same : course_of c.walks.memo c.places.result.now ≡ course =
    rw c.places.ensures (same-course c.walks.memo c.args.memo.now c.args.over.now.records.places c.walks.invariant.rows c.walks.invariant.moves) in
    let left : List Stand = drop c.walks.from c.args.stands.now in
    let further : List Stand = drop c.in_ok-from.from c.args.stands.now in
    record {
      rows = c.walk_some.ensures.rows ∙ c.walks.invariant.rows;
      moves = c.walk_some.ensures.moves ∙ c.walks.invariant.moves;
      sums = c.walks.invariant.sums;
      room = c.file.ensures.room ∙ c.walks.invariant.room;
      ahead = c.walks.invariant.ahead;
      within = c.in_ok-from.ensures.within;
      filed = λ groups are.
          let filed = c.walks.invariant.filed groups are in
          filed-more course (ranks_of c.args.over.now.records.table) c.args.aim c.args.found.now groups left further c.walks.tables.files.filed filed c.walk_some.new.visits
          (subst (λ (course : Course). AreWalkedOnce course filed.rest further c.walk_some.new.visits) same (c.in_ok-from.ensures.walked filed.rest filed.left_are))
          c.file.new.self.filed (rw (sym c.table.ensures, sym c.as_slice.ensures) c.in_ok-file.ensures.filed);
    }

pub returns-clause-filed : goal.returns-clause-filed
returns-clause-filed g c groups sequences are visited =
    filed-all (course_of c.args.memo.now c.args.over.now.records.places) (ranks_of c.args.over.now.records.table) c.args.aim c.args.found.now groups (drop c.walks.from c.args.stands.now)
    c.walks.tables.files.filed (c.walks.invariant.filed groups are) (drop_of_length-le c.args.stands.now (omega (arith, c.walks-test.false))) sequences visited
