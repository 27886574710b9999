use Rattle.std.proofs.Common.{◌≡◌, ℕ, ◌<◌, ◌^◌, Bool, IsTrue, Option, List, [], length, refl, sym, subst, arith, rules}
use Rattle.std.proofs.lemmas.Result.{IfOk-weaker}
use Rattle.std.specs.List.{All, AllZip, Contains}
use Rattle.place_walk.specs.declared.stand.Stand.{Stand}
use Rattle.place_walk.specs.declared.visit.Visit.{Visit}
use Rattle.place_walk.specs.Courses.{Course, course_of}
use Rattle.place_walk.specs.Groups.{AreGroups}
use Rattle.place_walk.specs.Visits.{AreVisits}
use Rattle.stand_sums.specs.Sequences.{AreSequences}
use Rattle.stand_sums.specs.Writings.{Ranks, opens, IsReadable}
use Rattle.mask_sums.specs.Kept.{lacks, lacking}
use Rattle.level_ahead.specs.Behind.{CanLookBehind}
use Rattle.level_ahead.specs.Counts.{asked_of}
use Rattle.place_records.specs.Ranks.{RanksValue, ranks_of, CanAskOf}
use Rattle.snapshot_project.specs.Ahead.{AreAllAdded}
use Rattle.snapshot_project.specs.Aims.{goes}
use Rattle.snapshot_project.proofs.FoundLemmas.{buffer-readable, walked-sequences, visits-of}
use Rattle.snapshot_project.proofs.LookLemmas.{ready-looks}
use Rattle.snapshot_project.proofs.WalkedLemmas.{course-same, ready-few, ready-moves}
use Rattle.snapshot_project.proofs.ahead.count_ahead.Goals as goal

pub add-requires : goal.add-requires
add-requires g c =
    let room : ℕ = length c.args.tables.now.sums in
    let course : Course = course_of c.args.memo.now c.args.over.now.records.places in
    let here : course_of c.args.memo.now c.places.result.now ≡ course = rw c.places.ensures refl in
    let known = course-same c.args.memo.now c.args.over.now.rows.items c.args.over.now.records c.args.aim c.requires.rows c.requires.moves in
    let walked = c.requires.visits (omega (arith, c.if-next-len.false, c.len.ensures)) in
    let readable : All (IsReadable (ranks_of c.args.over.now.records.table) (CanAskOf c.args.over.now.records.table) room) c.args.tables.now.visits =
    buffer-readable c.args.over.now c.args.aim c.args.stands.now room c.requires.ready course known c.args.tables.now.visits walked in
    let few : length c.places.result.now < 2 ^ 32 = rw c.places.ensures (ready-few c.args.over.now c.args.aim c.args.stands.now room c.requires.ready) in
    let moves : All (λ entry. entry.of < length c.args.memo.now.moves) c.places.result.now =
    rw (c.places.ensures, c.requires.moves) (ready-moves c.args.over.now c.args.aim c.args.stands.now room c.requires.ready (goes c.args.aim.seen c.args.aim.need)) in
    let kept : IsTrue c.table-table.result.now.keeps = rw c.table-table.ensures c.requires.keeps in
    let asked : All (λ (visit : Visit). CanAskOf c.table-table.result.now visit.kind visit.action.state) c.as_slice-visits.result.now =
    rw (c.table-table.ensures, c.as_slice-visits.ensures) (λ k d below. (readable k d below).asked) in
    let behind : (visit : Visit) (rank : ℕ) → Contains c.as_slice-visits.result.now visit → Contains (asked_of c.args.tables.now.ahead) rank → IsTrue (opens (ranks_of c.table-table.result.now) (lacks (lacking c.args.aim)) rank visit)
    → CanLookBehind (course_of c.args.memo.now c.places.result.now) (CanAskOf c.table-table.result.now) visit = λ visit rank held asks opening.
    subst (λ (k : Course). CanLookBehind k (CanAskOf c.table-table.result.now) visit) (sym here)
    (subst (λ (t : RanksValue). CanLookBehind course (CanAskOf t) visit) (sym c.table-table.ensures)
    (ready-looks c.args.over.now c.args.aim c.args.stands.now room c.requires.ready c.args.stands.now [] (λ groups are. ([], groups, refl, are)) course known c.requires.walked
    c.args.tables.now.visits
    (λ groups are.
    let walk = walked groups are in
    record {
      done = walk.done;
      rest = walk.rest;
      cut = walk.cut;
      left_are = walk.left_are;
      visits_are = visits-of course walk.done c.args.tables.now.visits walk.sequences walk.walked walk.cut_are;
    })
    visit (subst (λ (l : List Visit). Contains l visit) c.as_slice-visits.ensures held) rank (c.requires.apart rank asks)
    (subst (λ (t : RanksValue). IsTrue (opens (ranks_of t) (lacks (lacking c.args.aim)) rank visit)) c.table-table.ensures opening))) in
    let width = c.requires.width in
    search rules

pub returns-clause-counted : goal.returns-clause-counted
returns-clause-counted g c =
    let course : Course = course_of c.args.memo.now c.args.over.now.records.places in
    let ranks : Ranks = ranks_of c.args.over.now.records.table in
    let here : course_of c.args.memo.now c.places.result.now ≡ course = rw c.places.ensures refl in
    IfOk-weaker c.add.result
    (λ (ended : Bool). IsTrue ended → (sequences : List (List Visit)) → AreSequences c.as_slice-visits.result.now sequences
    → AreAllAdded (course_of c.args.memo.now c.places.result.now) (ranks_of c.table-table.result.now) c.lacking.result sequences c.args.tables.now.ahead c.add.new.self)
    (λ (ended : Bool). IsTrue ended → (groups : List (List Stand)) (sequences : List (List Visit)) → AreGroups c.args.stands.now groups
    → AllZip (AreVisits course) groups sequences → AreAllAdded course ranks (lacking c.args.aim) sequences c.args.tables.now.ahead c.add.new.self)
    (λ ended counted is groups sequences are visited.
    let cut : AreSequences c.args.tables.now.visits sequences =
    walked-sequences course groups c.args.tables.now.visits (c.requires.visits (omega (arith, c.if-next-len.false, c.len.ensures)) groups are) sequences visited in
    subst (λ (w : Course). AreAllAdded w ranks (lacking c.args.aim) sequences c.args.tables.now.ahead c.add.new.self) here
    (subst (λ (t : RanksValue). AreAllAdded (course_of c.args.memo.now c.places.result.now) (ranks_of t) (lacking c.args.aim) sequences c.args.tables.now.ahead c.add.new.self) c.table-table.ensures
    (subst (λ (o : Option ℕ). AreAllAdded (course_of c.args.memo.now c.places.result.now) (ranks_of c.table-table.result.now) o sequences c.args.tables.now.ahead c.add.new.self) c.lacking.ensures
    (counted is sequences (subst (λ (l : List Visit). AreSequences l sequences) (sym c.as_slice-visits.ensures) cut)))))
    c.add.ensures.counted
