use Rattle.std.proofs.Common.{ℕ, ◌<◌, ◌^◌, List, length, drop, subst, sym, rules}
use Rattle.std.specs.List.{All}
use Rattle.place_walk.specs.declared.stand.Stand.{Stand}
use Rattle.place_walk.specs.Courses.{course_of}
use Rattle.place_walk.specs.Groups.{AreGroups, AreWalked as AreWalkedOnce}
use Rattle.place_records.specs.Ranks.{ranks_of}
use Rattle.walk_places.specs.declared.places.Record.{Record}
use Rattle.snapshot_project.specs.Aims.{goes}
use Rattle.snapshot_project.proofs.WalkedLemmas.{course-same, ready-few, ready-moves, ready-placed, ready-states, ready-ordered, ready-readable, walked-cut, summed-more}
use Rattle.snapshot_project.proofs.growing.count_some.Goals as goal

pub walk_some-requires : goal.walk_some-requires
walk_some-requires g c =
    let room : ℕ = length c.args.tables.now.sums in
    let width = c.requires.width in
    let few : length c.places.result.now < 2 ^ 32 =
    rw c.places.ensures (ready-few c.args.over.now c.args.aim c.args.stands.now room c.requires.ready) in
    let moves : All (λ entry. entry.of < length c.args.memo.now.moves) c.places.result.now =
    rw (c.places.ensures, c.requires.moves)
    (ready-moves c.args.over.now c.args.aim c.args.stands.now room c.requires.ready (goes c.args.aim.seen c.args.aim.need)) in
    let states : All (λ stand. stand.state < length c.args.memo.now.rows) c.args.stands.now =
    rw c.requires.rows (ready-states c.args.over.now c.args.aim c.args.stands.now room c.requires.ready) in
    let places : All (λ stand. stand.place < length c.places.result.now) c.args.stands.now =
    rw c.places.ensures (ready-placed c.args.over.now c.args.aim c.args.stands.now room c.requires.ready) in
    let rising = ready-ordered c.args.over.now c.args.aim c.args.stands.now room c.requires.ready in
    search rules

pub add-requires : goal.add-requires
add-requires g c =
    let walked : (groups : List (List Stand)) → AreGroups (drop c.args.from c.args.stands.now) groups
    → AreWalkedOnce (course_of c.args.memo.now c.args.over.now.records.places) groups (drop c.in_ok-next.next c.args.stands.now) c.walk_some.new.visits =
    subst (λ (places : List Record). (groups : List (List Stand)) → AreGroups (drop c.args.from c.args.stands.now) groups
    → AreWalkedOnce (course_of c.args.memo.now places) groups (drop c.in_ok-next.next c.args.stands.now) c.walk_some.new.visits) c.places.ensures c.in_ok-next.ensures.walked in
    rw c.table.ensures (rw c.as_slice.ensures
    (ready-readable c.args.over.now c.args.aim c.args.stands.now (length c.args.tables.now.sums) c.requires.ready (drop c.args.from c.args.stands.now) (drop c.in_ok-next.next c.args.stands.now)
    (λ groups are. let summed = c.requires.begun groups are in (summed.walk.done, summed.walk.rest, summed.walk.cut, summed.walk.left_are))
    (course_of c.args.memo.now c.args.over.now.records.places)
    (course-same c.args.memo.now c.args.over.now.rows.items c.args.over.now.records c.args.aim c.requires.rows c.requires.moves) c.walk_some.new.visits walked))

pub returns-clause-visits : goal.returns-clause-visits
returns-clause-visits g c groups are =
    walked-cut (course_of c.args.memo.now c.args.over.now.records.places) groups (drop c.in_ok-next.next c.args.stands.now) c.walk_some.new.visits
    (subst (λ (places : List Record). AreWalkedOnce (course_of c.args.memo.now places) groups (drop c.in_ok-next.next c.args.stands.now) c.walk_some.new.visits) c.places.ensures
    (c.in_ok-next.ensures.walked groups are))

pub returns-clause-counted : goal.returns-clause-counted
returns-clause-counted g c groups are =
    summed-more (course_of c.args.memo.now c.args.over.now.records.places) (ranks_of c.args.over.now.records.table) c.args.aim c.args.weights.now groups
    (drop c.args.from c.args.stands.now) (drop c.in_ok-next.next c.args.stands.now) c.args.tables.now.sums c.add.new.self (c.requires.begun groups are)
    c.add.ensures.room c.walk_some.new.visits
    (λ others those. subst (λ (places : List Record). AreWalkedOnce (course_of c.args.memo.now places) others (drop c.in_ok-next.next c.args.stands.now) c.walk_some.new.visits) c.places.ensures
    (c.in_ok-next.ensures.walked others those))
    (rw (sym c.table.ensures) (rw (sym c.as_slice.ensures) c.in_ok-add.ensures.counted))
