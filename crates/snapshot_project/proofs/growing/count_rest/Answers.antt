use Rattle.std.proofs.Common.{◌≡◌, ◌∙◌, List, length, drop, refl, sym, subst, arith, rules}
use Rattle.std.proofs.Math.ListN.{drop_of_length-le}
use Rattle.place_walk.specs.declared.stand.Stand.{Stand}
use Rattle.place_walk.specs.Courses.{Course, course_of}
use Rattle.place_walk.specs.Groups.{AreGroups}
use Rattle.place_walk.proofs.StandLemmas.{same-course}
use Rattle.place_records.specs.Ranks.{ranks_of}
use Rattle.place_records.specs.Values.{moves_for}
use Rattle.snapshot_project.specs.Aims.{goes}
use Rattle.snapshot_project.specs.Founds.{IsReady, AreSummed}
use Rattle.snapshot_project.proofs.growing.count_rest.Goals as goal

pub walks-init : goal.walks-init
walks-init g c = record {
  rows = refl;
  moves = refl;
  sums = refl;
  files = refl;
  within = c.requires.from;
  summed = c.requires.begun;
}

pub count_some-requires : goal.count_some-requires
count_some-requires g c =
    let width = c.requires.width in
    let ready : IsReady c.args.over.now c.args.aim c.args.stands.now (length c.walks.tables.sums) = rw c.walks.invariant.sums c.requires.ready in
    let rows : c.walks.memo.rows ≡ c.args.over.now.rows.items = c.walks.invariant.rows ∙ c.requires.rows in
    let moves : c.walks.memo.moves ≡ moves_for c.args.over.now.records (goes c.args.aim.seen c.args.aim.need) = c.walks.invariant.moves ∙ c.requires.moves in
    let begun : (groups : List (List Stand)) → AreGroups c.args.stands.now groups
    → AreSummed (course_of c.walks.memo c.args.over.now.records.places) (ranks_of c.args.over.now.records.table) c.args.aim c.args.weights.now groups
    (drop c.walks.next c.args.stands.now) c.walks.tables.sums = λ groups are.
    subst (λ (course : Course). AreSummed course (ranks_of c.args.over.now.records.table) c.args.aim c.args.weights.now groups (drop c.walks.next c.args.stands.now) c.walks.tables.sums)
    (sym (same-course c.walks.memo c.args.memo.now c.args.over.now.records.places c.walks.invariant.rows c.walks.invariant.moves)) (c.walks.invariant.summed groups are) in
    search rules

pub walks-preserved : goal.walks-preserved
walks-preserved g c = record {
  rows = c.count_some.ensures.rows ∙ c.walks.invariant.rows;
  moves = c.count_some.ensures.moves ∙ c.walks.invariant.moves;
  sums = c.count_some.ensures.sums ∙ c.walks.invariant.sums;
  files = c.count_some.ensures.files ∙ c.walks.invariant.files;
  within = c.in_ok-next.ensures.within;
  summed = λ groups are.
      subst (λ (course : Course). AreSummed course (ranks_of c.args.over.now.records.table) c.args.aim c.args.weights.now groups (drop c.in_ok-next.next c.args.stands.now) c.count_some.new.tables.sums)
      (same-course c.walks.memo c.args.memo.now c.args.over.now.records.places c.walks.invariant.rows c.walks.invariant.moves) (c.in_ok-next.ensures.counted groups are);
}

pub returns-clause-counted : goal.returns-clause-counted
returns-clause-counted g c groups are =
    subst (λ (left : List Stand). AreSummed (course_of c.args.memo.now c.args.over.now.records.places) (ranks_of c.args.over.now.records.table) c.args.aim c.args.weights.now groups left c.walks.tables.sums)
    (drop_of_length-le c.args.stands.now (omega (arith, c.walks-test.false))) (c.walks.invariant.summed groups are)
