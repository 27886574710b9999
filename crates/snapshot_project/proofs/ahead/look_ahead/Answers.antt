use Rattle.std.proofs.Common.{◌≡◌, ◌∙◌, ℕ, ◌<◌, IsTrue, IfSome, Option, Some, List, filter, map, ap, subst, rules}
use Rattle.std.specs.List.{AllZip, Contains}
use Rattle.stand_sums.specs.declared.next_rank.NextRank.{NextRank}
use Rattle.mask_sums.specs.Kept.{lacking}
use Rattle.level_ahead.specs.Counts.{Behind, is_asked, asked_of}
use Rattle.place_walk.specs.declared.stand.Stand.{Stand}
use Rattle.place_walk.specs.declared.visit.Visit.{Visit}
use Rattle.place_walk.specs.Courses.{Course, course_of}
use Rattle.place_walk.specs.Groups.{AreGroups}
use Rattle.place_walk.specs.Visits.{AreVisits}
use Rattle.place_walk.proofs.StandLemmas.{same-course}
use Rattle.place_records.specs.Ranks.{ranks_of}
use Rattle.snapshot_project.specs.Ahead.{IsKeptAhead, AreFiledAhead}
use Rattle.snapshot_project.proofs.LookLemmas.{asked-begun, counted-begun, asked-apart, entry-asked}
use Rattle.snapshot_project.proofs.ahead.look_ahead.Goals.{In_ok-begin}
use Rattle.snapshot_project.proofs.ahead.look_ahead.Given.{Over}
use Rattle.snapshot_project.proofs.ahead.look_ahead.Goals as goal

-- no rank that is asked about is lacking
apart : (g : Over) (c : In_ok-begin g) (rank : ℕ) → Contains (asked_of c.begin.new.self) rank → lacking c.args.aim ≡ Some rank → ⊥
apart g c rank asks is = asked-apart c.lacking-lacks.result c.args.found.now c.begin.new.self c.in_ok-begin.ensures rank asks (c.lacking-lacks.ensures ∙ is)

pub count_ahead-requires : goal.count_ahead-requires
count_ahead-requires g c =
    let there : In_ok-begin g = (goal.at.count_ahead-requires g c).In_ok-begin in
    let need : IfSome (lacking c.args.aim) (λ need. need < 256) =
    subst (λ (o : Option ℕ). IfSome o (λ need. need < 256)) c.lacking-lacks.ensures (c.looks_ahead.ensures.need c.if-not-looks_ahead.false) in
    let away = apart g there in
    let keeps : IsTrue c.args.over.now.records.table.keeps = c.looks_ahead.ensures.keeps c.if-not-looks_ahead.false in
    let width = c.requires.width in
    let ready = c.requires.ready in
    let rows = c.requires.rows in
    let moves = c.requires.moves in
    let visits = c.requires.visits in
    let walked : (groups : List (List Stand)) → AreGroups c.args.stands.now groups
    → (sequences : List (List Visit)) × AllZip (AreVisits (course_of c.args.memo.now c.args.over.now.records.places)) groups sequences = λ groups are.
    let (sequences, visited, all) = c.requires.places groups are in (sequences, visited) in
    search rules

pub longer_ahead-requires-clause-asked : goal.longer_ahead-requires-clause-asked
longer_ahead-requires-clause-asked g c =
    ap asked_of c.lacking_stands.ensures.ahead ∙ c.count_ahead.ensures.asked ∙ ap asked_of c.in_ok-begin.ensures ∙ asked-begun (filter (is_asked c.lacking-lacks.result) c.args.found.now)
    ∙ ap (λ (o : Option ℕ). map (λ (n : NextRank). n.rank) (filter (is_asked o) c.args.found.now)) c.lacking-lacks.ensures

pub returns-clause-ahead : goal.returns-clause-ahead
returns-clause-ahead g c =
    let there : In_ok-begin g = (goal.at.returns-clause-ahead g c).In_ok-begin in
    let places = c.args.over.now.records.places in
    let course : Course = course_of c.args.memo.now places in
    let ranks = ranks_of c.args.over.now.records.table in
    let same : course_of c.count_ahead.new.memo places ≡ course = same-course c.count_ahead.new.memo c.args.memo.now places c.count_ahead.ensures.rows c.count_ahead.ensures.moves in
    record {
      light = c.looks_ahead.ensures.weights c.if-not-looks_ahead.false;
      few = c.requires.few c.if-not-few.false;
      behinds = c.count_ahead.new.tables.ahead;
      apart = λ behind held is. apart g there behind.rank (subst (λ (l : List ℕ). Contains l behind.rank) c.count_ahead.ensures.asked (entry-asked c.count_ahead.new.tables.ahead behind held)) is;
      run = c.in_ok-run.run'.stands;
      filed = subst (λ (k : Course). AreFiledAhead k ranks c.args.aim c.args.stands.now c.args.found.now c.in_ok-run.run'.stands) same c.in_ok-run.ensures.filed;
      kept = subst (λ (b : List Behind). AllZip (IsKeptAhead c.args.aim c.args.least b c.in_ok-run.run'.stands) c.args.found.now c.in_ok-longer.longer.items) c.lacking_stands.ensures.ahead
          c.in_ok-longer.ensures;
      counted = λ groups sequences are visited.
          counted-begun course ranks (lacking c.args.aim) sequences (filter (is_asked c.lacking-lacks.result) c.args.found.now) c.begin.new.self c.count_ahead.new.tables.ahead c.in_ok-begin.ensures
          c.count_ahead.ensures.asked (c.in_ok-count_ahead.ensures.counted c.if-not-branch.false groups sequences are visited);
    }
