use Rattle.std.proofs.Common.{◌≡◌, ◌∙◌, ℕ, ◌<◌, ◌≤◌, ◌++◌, IfSome, IfNone, Option, Some, List, [], ◌∷◌, sym, ap, subst, rules}
use Rattle.std.proofs.lemmas.Option.{same_Some}
use Rattle.std.proofs.lemmas.Result.{IfOk-weaker}
use Rattle.std.specs.List.{All, AllPairs, AllZip, Contains}
use Rattle.place_walk.specs.declared.stand.Stand.{Stand}
use Rattle.place_walk.specs.declared.visit.Visit.{Visit}
use Rattle.place_walk.specs.Courses.{Course, course_of}
use Rattle.place_walk.specs.Groups.{AreGroups}
use Rattle.place_walk.specs.Visits.{AreVisits}
use Rattle.stand_sums.specs.declared.next_rank.NextRank.{NextRank}
use Rattle.stand_sums.specs.Writings.{Ranks}
use Rattle.stand_sums.specs.Sums.{AreLaidOut}
use Rattle.mask_sums.specs.Kept.{lacking}
use Rattle.place_records.specs.Ranks.{ranks_of}
use Rattle.stand_sums.specs.Runs.{RunValue}
use Rattle.snapshot_project.specs.Ahead.{moved_front, AreFiledAhead, HaveRoomAhead}
use Rattle.snapshot_project.specs.Founds.{AreInRun}
use Rattle.snapshot_project.specs.Longer.{HaveAllPlaces}
use Rattle.snapshot_project.proofs.FrontLemmas.{front-rising, front-laid, front-below, front-places, front-filed, front-within, none-filed, none-within}
use Rattle.snapshot_project.proofs.WalkedLemmas.{ready-groups}
use Rattle.snapshot_project.proofs.ahead.lacking_stands.Given.{Over}
use Rattle.snapshot_project.proofs.ahead.lacking_stands.Goals.{In_default-placed, In-Some-placed, In_ok-push}
use Rattle.snapshot_project.proofs.ahead.lacking_stands.Goals as goal

-- no entry of the lacking rank has places
nowhere : (g : Over) (c : In_default-placed g) (next : NextRank) → Contains c.args.found.now next → lacking c.args.aim ≡ Some next.rank → next.last ≤ next.first
nowhere g c next there lacked =
    let none : (n : NextRank) → Contains c.args.found.now n → n.rank ≡ c.in-Some.need → n.last ≤ n.first =
    subst (λ (o : Option NextRank). IfNone o ((n : NextRank) → Contains c.args.found.now n → n.rank ≡ c.in-Some.need → n.last ≤ n.first)) c.in_default-placed.is c.placed.ensures.none in
    none next there (same_Some next.rank c.in-Some.need (sym lacked ∙ sym c.lacking.ensures ∙ c.in-Some.is))

pub returns-in_default-placed-clause-filed : goal.returns-in_default-placed-clause-filed
returns-in_default-placed-clause-filed g c =
    let there : In_default-placed g = (goal.at.returns-in_default-placed-clause-filed g c).In_default-placed in
    none-filed (course_of c.args.memo.now c.args.over.now.records.places) (ranks_of c.args.over.now.records.table) c.args.aim c.args.stands.now c.args.found.now
    c.new-in_default-placed.result.stands (nowhere g there)

pub returns-in_default-placed-clause-within : goal.returns-in_default-placed-clause-within
returns-in_default-placed-clause-within g c =
    let there : In_default-placed g = (goal.at.returns-in_default-placed-clause-within g c).In_default-placed in
    none-within c.args.aim c.args.found.now c.new-in_default-placed.result.stands (nowhere g there)

module _ (g : Over) (c : In_ok-push g) where
  abbrev one : NextRank
  one = c.in-Some-placed.one

  told : Contains c.args.found.now one × (one.rank ≡ c.in-Some.need) × (one.first < one.last)
  told =
      subst (λ (o : Option NextRank). IfSome o (λ n. Contains c.args.found.now n × (n.rank ≡ c.in-Some.need) × (n.first < n.last))) c.in-Some-placed.is c.placed.ensures.some

  lacks : lacking c.args.aim ≡ Some c.in-Some.need
  lacks = sym c.lacking.ensures ∙ c.in-Some.is

  list : c.push.new.self.items ≡ moved_front one ∷ []
  list =
      c.in_ok-push.ensures.items ∙ ap (λ (l : List NextRank). l ++ c.at_front.result ∷ []) c.new-only.ensures.items ∙ ap (λ (n : NextRank). n ∷ []) c.at_front.ensures

pub stands_behind-requires : goal.stands_behind-requires
stands_behind-requires g c =
    let there : In_ok-push g = (goal.at.stands_behind-requires g c).In_ok-push in
    let course : Course = course_of c.args.memo.now c.args.over.now.records.places in
    let ranks : Ranks = ranks_of c.args.over.now.records.table in
    let found : List NextRank = c.args.found.now in
    let (held, named, some) = told g there in
    let here : c.as_slice.result.now ≡ moved_front (one g there) ∷ [] = c.as_slice.ensures.value ∙ list g there in
    let width = c.requires.width in
    let ready = c.requires.ready in
    let rows = c.requires.rows in
    let moves = c.requires.moves in
    let rising : AllPairs (λ (low high : NextRank). low.rank < high.rank) c.as_slice.result.now =
    rw here (front-rising course ranks c.args.aim c.args.stands.now found (one g there) held some c.requires.places) in
    let below : All (λ (next : NextRank). next.rank < c.args.tables.now.files.room) c.as_slice.result.now =
    rw here (front-below course ranks c.args.aim c.args.stands.now found (one g there) held some c.requires.places c.args.tables.now.files.room c.requires.below) in
    let laid : (end : ℕ) × AreLaidOut 0 c.as_slice.result.now end =
    rw here (front-laid course ranks c.args.aim c.args.stands.now found (one g there) held some c.requires.places) in
    let all : (groups : List (List Stand)) → AreGroups c.args.stands.now groups
    → (sequences : List (List Visit)) × AllZip (AreVisits course) groups sequences × HaveAllPlaces ranks c.args.aim sequences c.as_slice.result.now =
    subst (λ (l : List NextRank). (groups : List (List Stand)) → AreGroups c.args.stands.now groups
    → (sequences : List (List Visit)) × AllZip (AreVisits course) groups sequences × HaveAllPlaces ranks c.args.aim sequences l) (sym here)
    (front-places course ranks c.args.aim c.args.stands.now found (one g there) held some c.requires.places) in
    let visits = c.requires.visits in
    search rules

pub returns-clause-filed : goal.returns-clause-filed
returns-clause-filed g c =
    let there : In_ok-push g = (goal.at.returns-clause-filed g c).In_ok-push in
    let course : Course = course_of c.args.memo.now c.args.over.now.records.places in
    let ranks : Ranks = ranks_of c.args.over.now.records.table in
    let (held, named, some) = told g there in
    let here : c.as_slice.result.now ≡ moved_front (one g there) ∷ [] = c.as_slice.ensures.value ∙ list g there in
    IfOk-weaker c.stands_behind.result
    (λ (run : RunValue). (groups : List (List Stand)) (sequences : List (List Visit)) → AreGroups c.args.stands.now groups → AllZip (AreVisits course) groups sequences
    → AreInRun ranks c.args.aim sequences c.as_slice.result.now run.stands)
    (λ (run : RunValue). AreFiledAhead course ranks c.args.aim c.args.stands.now c.args.found.now run.stands)
    (λ run filed.
    front-filed course ranks c.args.aim c.args.stands.now c.args.found.now (one g there) held some c.requires.places c.in-Some.need named (lacks g there) run.stands
    (λ groups sequences are visited. subst (λ (l : List NextRank). AreInRun ranks c.args.aim sequences l run.stands) here (filed groups sequences are visited)))
    c.stands_behind.ensures.run

pub returns-clause-within : goal.returns-clause-within
returns-clause-within g c =
    let there : In_ok-push g = (goal.at.returns-clause-within g c).In_ok-push in
    let course : Course = course_of c.args.memo.now c.args.over.now.records.places in
    let ranks : Ranks = ranks_of c.args.over.now.records.table in
    let (held, named, some) = told g there in
    let here : c.as_slice.result.now ≡ moved_front (one g there) ∷ [] = c.as_slice.ensures.value ∙ list g there in
    let (groups, are) = ready-groups c.args.over.now c.args.aim c.args.stands.now c.args.tables.now.files.room c.requires.ready in
    IfOk-weaker c.stands_behind.result
    (λ (run : RunValue). (groups : List (List Stand)) (sequences : List (List Visit)) → AreGroups c.args.stands.now groups → AllZip (AreVisits course) groups sequences
    → AreInRun ranks c.args.aim sequences c.as_slice.result.now run.stands)
    (λ (run : RunValue). HaveRoomAhead c.args.aim c.args.found.now run.stands)
    (λ run filed.
    front-within course ranks c.args.aim c.args.stands.now c.args.found.now (one g there) held some c.requires.places c.in-Some.need named (lacks g there) run.stands
    (λ groups sequences are visited. subst (λ (l : List NextRank). AreInRun ranks c.args.aim sequences l run.stands) here (filed groups sequences are visited)) groups are)
    c.stands_behind.ensures.run
