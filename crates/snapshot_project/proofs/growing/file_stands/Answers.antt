use Rattle.std.proofs.Common.{◌≡◌, ◌∙◌, ℕ, false, List, map, sym, ap, subst, arith, rules}
use Rattle.std.specs.List.{All}
use Rattle.std.proofs.lemmas.Result.{on_ok_weaker}
use Rattle.place_walk.specs.declared.visit.Visit.{Visit}
use Rattle.place_walk.specs.Courses.{Course, course_of}
use Rattle.stand_sums.specs.Files.{HasRoom, with_more}
use Rattle.stand_sums.specs.Sequences.{AreSequences}
use Rattle.stand_sums.specs.Sums.{AreLaidOut}
use Rattle.stand_sums.specs.Writings.{IsReadable}
use Rattle.place_records.specs.Ranks.{ranks_of, CanAskOf}
use Rattle.snapshot_project.proofs.FoundLemmas.{nothing-filed, buffer-readable, buffer-room, walked-sequences}
use Rattle.snapshot_project.proofs.RoomLemmas.{places-none}
use Rattle.snapshot_project.proofs.WalkedLemmas.{course-same, ready-groups}
use Rattle.snapshot_project.proofs.growing.file_stands.Goals as goal

pub returns-then-not-has_places-clause-filed : goal.returns-then-not-has_places-clause-filed
returns-then-not-has_places-clause-filed g c groups sequences are visited =
    let (end, laid) = c.requires.laid_out in
    let nowhere : c.has_places.result ≡ false = search rules in
    let none : end ≡ 0 = c.has_places.ensures nowhere end laid in
    c.requires.begun ∙ sym (nothing-filed (ranks_of c.args.over.now.records.table) c.args.aim sequences c.args.found.now
    (places-none c.args.found.now (subst (λ (n : ℕ). AreLaidOut 0 c.args.found.now n) none laid)))

pub file-requires-clause-readable : goal.file-requires-clause-readable
file-requires-clause-readable g c =
    let course : Course = course_of c.args.memo.now c.args.over.now.records.places in
    let readable : All (IsReadable (ranks_of c.args.over.now.records.table) (CanAskOf c.args.over.now.records.table) c.args.tables.now.files.room) c.args.tables.now.visits =
    buffer-readable c.args.over.now c.args.aim c.args.stands.now c.args.tables.now.files.room c.requires.ready course
    (course-same c.args.memo.now c.args.over.now.rows.items c.args.over.now.records c.args.aim c.requires.rows c.requires.moves) c.args.tables.now.visits
    (c.requires.visits (omega (arith, c.if-next-len.false, c.len.ensures))) in
    rw (c.table.ensures, c.as_slice-visits.ensures) readable

pub file-requires-clause-room : goal.file-requires-clause-room
file-requires-clause-room g c =
    let course : Course = course_of c.args.memo.now c.args.over.now.records.places in
    let (groups, are) = ready-groups c.args.over.now c.args.aim c.args.stands.now c.args.tables.now.files.room c.requires.ready in
    let (all, visited, places) = c.requires.places groups are in
    let room : All (HasRoom (ranks_of c.args.over.now.records.table) c.args.aim c.args.tables.now.visits) c.args.tables.now.files.filed =
    buffer-room course groups (ranks_of c.args.over.now.records.table) c.args.aim c.args.found.now c.args.tables.now.files.filed c.requires.begun c.args.tables.now.visits
    (c.requires.visits (omega (arith, c.if-next-len.false, c.len.ensures)) groups are) all visited places in
    rw (c.table.ensures, c.as_slice-visits.ensures) room

pub returns-clause-filed : goal.returns-clause-filed
returns-clause-filed g c =
    on_ok_weaker c.file.result
    (λ filed groups sequences are visited.
    let course : Course = course_of c.args.memo.now c.args.over.now.records.places in
    let cut : AreSequences c.args.tables.now.visits sequences =
    walked-sequences course groups c.args.tables.now.visits (c.requires.visits (omega (arith, c.if-next-len.false, c.len.ensures)) groups are) sequences visited in
    let more : c.file.new.self.filed ≡ map (with_more (ranks_of c.args.over.now.records.table) c.args.aim sequences) c.args.tables.now.files.filed =
    rw (sym c.table.ensures) (filed sequences (subst (λ (visits : List Visit). AreSequences visits sequences) (sym c.as_slice-visits.ensures) cut)) in
    more ∙ ap (map (with_more (ranks_of c.args.over.now.records.table) c.args.aim sequences)) c.requires.begun)
    c.file.ensures.filed
