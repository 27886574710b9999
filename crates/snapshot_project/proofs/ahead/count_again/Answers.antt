use Rattle.std.proofs.Common.{◌≡◌, ◌∙◌, ℕ, ◌<◌, ◌^◌, IsTrue, Option, Some, List, length, drop, refl, sym, subst, arith, rules}
use Rattle.std.proofs.Math.ListN.{drop_of_length-le}
use Rattle.std.specs.List.{All, Contains}
use Rattle.place_walk.specs.declared.stand.Stand.{Stand}
use Rattle.place_walk.specs.declared.visit.Visit.{Visit}
use Rattle.place_walk.specs.Courses.{Course, course_of}
use Rattle.place_walk.specs.Groups.{AreGroups, AreWalked as AreWalkedOnce}
use Rattle.place_walk.proofs.StandLemmas.{same-course}
use Rattle.stand_sums.specs.Sequences.{AreSequences}
use Rattle.stand_sums.specs.Writings.{Ranks, opens, IsReadable}
use Rattle.mask_sums.specs.Kept.{lacks, lacking}
use Rattle.level_ahead.specs.Behind.{CanLookBehind}
use Rattle.level_ahead.specs.Counts.{asked_of, AreAdded}
use Rattle.place_records.specs.Ranks.{RanksValue, ranks_of, CanAskOf}
use Rattle.place_records.specs.Values.{moves_for}
use Rattle.snapshot_project.specs.Ahead.{AreAllAdded}
use Rattle.snapshot_project.specs.Aims.{goes}
use Rattle.snapshot_project.proofs.LookLemmas.{ready-looks, ahead-none, ahead-more, ahead-all}
use Rattle.snapshot_project.proofs.WalkedLemmas.{IsCutBefore, course-same, ready-few, ready-moves, ready-placed, ready-states, ready-ordered, ready-readable}
use Rattle.snapshot_project.proofs.ahead.count_again.Goals as goal

pub walks-init : goal.walks-init
walks-init g c = record {
  rows = refl;
  moves = refl;
  sums = refl;
  files = refl;
  within = omega arith;
  asked = refl;
  added = λ groups are.
      ahead-none (course_of c.args.memo.now c.args.over.now.records.places) (ranks_of c.args.over.now.records.table) (lacking c.args.aim) groups c.args.stands.now are c.args.tables.now.ahead;
}

pub walk_some-requires : goal.walk_some-requires
walk_some-requires g c =
    let room : ℕ = length c.args.tables.now.sums in
    let width = c.requires.width in
    let few : length c.places.result.now < 2 ^ 32 =
    rw c.places.ensures (ready-few c.args.over.now c.args.aim c.args.stands.now room c.requires.ready) in
    let moves : All (λ entry. entry.of < length c.walks.memo.moves) c.places.result.now =
    rw (c.places.ensures, c.walks.invariant.moves, c.requires.moves)
    (ready-moves c.args.over.now c.args.aim c.args.stands.now room c.requires.ready (goes c.args.aim.seen c.args.aim.need)) in
    let states : All (λ stand. stand.state < length c.walks.memo.rows) c.args.stands.now =
    rw (c.walks.invariant.rows, c.requires.rows) (ready-states c.args.over.now c.args.aim c.args.stands.now room c.requires.ready) in
    let places : All (λ stand. stand.place < length c.places.result.now) c.args.stands.now =
    rw c.places.ensures (ready-placed c.args.over.now c.args.aim c.args.stands.now room c.requires.ready) in
    let rising = ready-ordered c.args.over.now c.args.aim c.args.stands.now room c.requires.ready in
    search rules

pub add-requires : goal.add-requires
add-requires g c =
    let room : ℕ = length c.args.tables.now.sums in
    let course : Course = course_of c.args.memo.now c.args.over.now.records.places in
    let ranks : Ranks = ranks_of c.args.over.now.records.table in
    let before : course_of c.walks.memo c.places.result.now ≡ course =
    rw c.places.ensures (same-course c.walks.memo c.args.memo.now c.args.over.now.records.places c.walks.invariant.rows c.walks.invariant.moves) in
    let here : course_of c.walk_some.new.memo c.places-in-walks.result.now ≡ course =
    rw c.places-in-walks.ensures (same-course c.walk_some.new.memo c.args.memo.now c.args.over.now.records.places
    (c.in_ok-from.ensures.rows ∙ c.walks.invariant.rows) (c.in_ok-from.ensures.moves ∙ c.walks.invariant.moves)) in
    let left : List Stand = drop c.walks.from c.args.stands.now in
    let further : List Stand = drop c.in_ok-from.from c.args.stands.now in
    let known = course-same c.args.memo.now c.args.over.now.rows.items c.args.over.now.records c.args.aim c.requires.rows c.requires.moves in
    let begun : (groups : List (List Stand)) → AreGroups c.args.stands.now groups → IsCutBefore groups left = λ groups are.
    let to = c.walks.invariant.added groups are in (to.done, to.rest, to.cut, to.left_are) in
    let found : (groups : List (List Stand)) → AreGroups left groups → AreWalkedOnce course groups further c.walk_some.new.visits = λ groups are.
    subst (λ (k : Course). AreWalkedOnce k groups further c.walk_some.new.visits) before (c.in_ok-from.ensures.walked groups are) in
    let readable : All (IsReadable ranks (CanAskOf c.args.over.now.records.table) room) c.walk_some.new.visits =
    ready-readable c.args.over.now c.args.aim c.args.stands.now room c.requires.ready left further begun course known c.walk_some.new.visits found in
    let moves_are : c.walk_some.new.memo.moves ≡ moves_for c.args.over.now.records (goes c.args.aim.seen c.args.aim.need) =
    c.in_ok-from.ensures.moves ∙ c.walks.invariant.moves ∙ c.requires.moves in
    let few : length c.places-in-walks.result.now < 2 ^ 32 =
    rw c.places-in-walks.ensures (ready-few c.args.over.now c.args.aim c.args.stands.now room c.requires.ready) in
    let moves : All (λ entry. entry.of < length c.walk_some.new.memo.moves) c.places-in-walks.result.now =
    rw (c.places-in-walks.ensures, moves_are)
    (ready-moves c.args.over.now c.args.aim c.args.stands.now room c.requires.ready (goes c.args.aim.seen c.args.aim.need)) in
    let kept : IsTrue c.table-table.result.now.keeps = rw c.table-table.ensures c.requires.keeps in
    let asked : All (λ (visit : Visit). CanAskOf c.table-table.result.now visit.kind visit.action.state) c.as_slice-visits.result.now =
    rw (c.table-table.ensures, c.as_slice-visits.ensures) (λ k d below. (readable k d below).asked) in
    let apart : (rank : ℕ) → Contains (asked_of c.walks.tables.ahead) rank → lacking c.args.aim ≡ Some rank → ⊥ = λ rank asks.
    c.requires.apart rank (subst (λ (l : List ℕ). Contains l rank) c.walks.invariant.asked asks) in
    let behind : (visit : Visit) (rank : ℕ) → Contains c.as_slice-visits.result.now visit → Contains (asked_of c.walks.tables.ahead) rank → IsTrue (opens (ranks_of c.table-table.result.now) (lacks (lacking c.args.aim)) rank visit)
    → CanLookBehind (course_of c.walk_some.new.memo c.places-in-walks.result.now) (CanAskOf c.table-table.result.now) visit = λ visit rank held asks opening.
    subst (λ (k : Course). CanLookBehind k (CanAskOf c.table-table.result.now) visit) (sym here)
    (subst (λ (t : RanksValue). CanLookBehind course (CanAskOf t) visit) (sym c.table-table.ensures)
    (ready-looks c.args.over.now c.args.aim c.args.stands.now room c.requires.ready left further begun course known c.requires.walked c.walk_some.new.visits found
    visit (subst (λ (l : List Visit). Contains l visit) c.as_slice-visits.ensures held) rank (apart rank asks)
    (subst (λ (t : RanksValue). IsTrue (opens (ranks_of t) (lacks (lacking c.args.aim)) rank visit)) c.table-table.ensures opening))) in
    let width = c.requires.width in
    search rules

pub walks-preserved : goal.walks-preserved
walks-preserved g c =
    let course : Course = course_of c.args.memo.now c.args.over.now.records.places in
    let ranks : Ranks = ranks_of c.args.over.now.records.table in
    let before : course_of c.walks.memo c.places.result.now ≡ course =
    rw c.places.ensures (same-course c.walks.memo c.args.memo.now c.args.over.now.records.places c.walks.invariant.rows c.walks.invariant.moves) in
    let here : course_of c.walk_some.new.memo c.places-in-walks.result.now ≡ course =
    rw c.places-in-walks.ensures (same-course c.walk_some.new.memo c.args.memo.now c.args.over.now.records.places
    (c.in_ok-from.ensures.rows ∙ c.walks.invariant.rows) (c.in_ok-from.ensures.moves ∙ c.walks.invariant.moves)) in
    let left : List Stand = drop c.walks.from c.args.stands.now in
    let further : List Stand = drop c.in_ok-from.from c.args.stands.now in
    let more : (sequences : List (List Visit)) → AreSequences c.walk_some.new.visits sequences → AreAllAdded course ranks (lacking c.args.aim) sequences c.walks.tables.ahead c.add.new.self =
    λ sequences cut k one other at also.
    subst (λ (w : Course). AreAdded w ranks (lacking c.args.aim) sequences one other) here
    (subst (λ (t : RanksValue). AreAdded (course_of c.walk_some.new.memo c.places-in-walks.result.now) (ranks_of t) (lacking c.args.aim) sequences one other) c.table-table.ensures
    (subst (λ (o : Option ℕ). AreAdded (course_of c.walk_some.new.memo c.places-in-walks.result.now) (ranks_of c.table-table.result.now) o sequences one other) c.lacking.ensures
    (c.in_ok-add.ensures.counted c.if-not-branch.false sequences (subst (λ (l : List Visit). AreSequences l sequences) (sym c.as_slice-visits.ensures) cut) k one other at also))) in
    record {
      rows = c.in_ok-add.ensures.rows ∙ c.in_ok-from.ensures.rows ∙ c.walks.invariant.rows;
      moves = c.in_ok-add.ensures.moves ∙ c.in_ok-from.ensures.moves ∙ c.walks.invariant.moves;
      sums = c.walks.invariant.sums;
      files = c.walks.invariant.files;
      within = c.in_ok-from.ensures.within;
      asked = c.in_ok-add.ensures.asked ∙ c.walks.invariant.asked;
      added = λ groups are.
          let to = c.walks.invariant.added groups are in
          ahead-more course ranks (lacking c.args.aim) groups left further c.args.tables.now.ahead c.walks.tables.ahead c.add.new.self to c.walk_some.new.visits
          (subst (λ (w : Course). AreWalkedOnce w to.rest further c.walk_some.new.visits) before (c.in_ok-from.ensures.walked to.rest to.left_are))
          c.walks.invariant.asked c.in_ok-add.ensures.asked more;
    }

pub returns-clause-counted : goal.returns-clause-counted
returns-clause-counted g c ended groups sequences are visited =
    ahead-all (course_of c.args.memo.now c.args.over.now.records.places) (ranks_of c.args.over.now.records.table) (lacking c.args.aim) groups (drop c.walks.from c.args.stands.now)
    c.args.tables.now.ahead c.walks.tables.ahead (c.walks.invariant.added groups are) (drop_of_length-le c.args.stands.now (omega (arith, c.walks-test.false))) sequences visited
