use Rattle.std.proofs.Common.{◌≡◌, ◌∙◌, ℕ, ◌≤◌, ◌<◌, IsTrue, List, [], length, sym, ap, subst, rules}
use Rattle.std.specs.List.{All, AllPairs, AllZip}
use Rattle.place_walk.specs.declared.stand.Stand.{Stand}
use Rattle.place_walk.specs.declared.visit.Visit.{Visit}
use Rattle.place_walk.specs.Courses.{Course, course_of}
use Rattle.place_walk.specs.Groups.{AreGroups}
use Rattle.place_walk.specs.Visits.{AreVisits}
use Rattle.place_walk.proofs.StandLemmas.{same-course}
use Rattle.stand_sums.specs.declared.next_rank.NextRank.{NextRank}
use Rattle.stand_sums.specs.Files.{FilesValue}
use Rattle.stand_sums.specs.Sums.{AreLaidOut}
use Rattle.place_records.specs.Ranks.{ranks_of}
use Rattle.place_records.specs.Values.{moves_for}
use Rattle.snapshot_project.specs.Aims.{goes}
use Rattle.snapshot_project.specs.Founds.{IsReady, AreWalked}
use Rattle.snapshot_project.specs.Longer.{HaveAllPlaces}
use Rattle.snapshot_project.proofs.FoundLemmas.{next-below, summed-sequences, none-holds}
use Rattle.snapshot_project.proofs.growing.find_by.Goals as goal

pub look_ahead-requires : goal.look_ahead-requires
look_ahead-requires g c =
    let found : List NextRank = c.in_ok-ranks.ranks.items in
    let places = c.args.over.now.records.places in
    let width = c.requires.width in
    let ready : IsReady c.args.over.now c.args.aim c.args.stands.now (length c.count_all.new.tables.sums) =
    subst (λ (n : ℕ). IsReady c.args.over.now c.args.aim c.args.stands.now n) (sym c.count_all.ensures.sums) c.requires.ready in
    let rows : c.count_all.new.memo.rows ≡ c.args.over.now.rows.items = c.count_all.ensures.rows ∙ c.requires.rows in
    let moves : c.count_all.new.memo.moves ≡ moves_for c.args.over.now.records (goes c.args.aim.seen c.args.aim.need) = c.count_all.ensures.moves ∙ c.requires.moves in
    let few : IsTrue c.args.few → length c.count_all.new.tables.sums ≤ 256 = λ is. subst (λ (n : ℕ). n ≤ 256) (sym c.count_all.ensures.sums) (c.requires.few is) in
    let below : All (λ (next : NextRank). next.rank < length c.count_all.new.tables.sums) c.as_slice-found.result.now =
    rw c.as_slice-found.ensures.value (next-below c.args.least c.args.least c.count_all.new.tables.sums found c.in_ok-ranks.ensures) in
    let same : course_of c.args.memo.now places ≡ course_of c.count_all.new.memo places =
    sym (same-course c.count_all.new.memo c.args.memo.now places c.count_all.ensures.rows c.count_all.ensures.moves) in
    let all : (groups : List (List Stand)) → AreGroups c.args.stands.now groups
    → (sequences : List (List Visit)) × AllZip (AreVisits (course_of c.count_all.new.memo places)) groups sequences
    × HaveAllPlaces (ranks_of c.args.over.now.records.table) c.args.aim sequences c.as_slice-found.result.now = λ groups are.
    subst (λ (l : List NextRank). (sequences : List (List Visit)) × AllZip (AreVisits (course_of c.count_all.new.memo places)) groups sequences
    × HaveAllPlaces (ranks_of c.args.over.now.records.table) c.args.aim sequences l) (sym c.as_slice-found.ensures.value)
    (subst (λ (course : Course). (sequences : List (List Visit)) × AllZip (AreVisits course) groups sequences
    × HaveAllPlaces (ranks_of c.args.over.now.records.table) c.args.aim sequences found) same
    (summed-sequences (course_of c.args.memo.now places) groups (ranks_of c.args.over.now.records.table) c.args.aim c.args.weights.now c.count_all.new.tables.sums
    (c.in_ok-next.ensures.counted groups are) c.args.least found c.in_ok-ranks.ensures)) in
    let room : c.count_all.new.tables.files.room ≡ length c.count_all.new.tables.sums =
    ap (λ (f : FilesValue). f.room) c.count_all.ensures.files ∙ c.requires.room ∙ sym c.count_all.ensures.sums in
    let visits : length c.args.stands.now ≤ c.in_ok-next.next → (groups : List (List Stand)) → AreGroups c.args.stands.now groups
    → AreWalked (course_of c.count_all.new.memo places) groups [] c.count_all.new.tables.visits =
    subst (λ (course : Course). length c.args.stands.now ≤ c.in_ok-next.next → (groups : List (List Stand)) → AreGroups c.args.stands.now groups
    → AreWalked course groups [] c.count_all.new.tables.visits) same c.in_ok-next.ensures.visits in
    search rules

pub stands_behind-requires : goal.stands_behind-requires
stands_behind-requires g c =
    let found : List NextRank = c.in_ok-ranks.ranks.items in
    let places = c.args.over.now.records.places in
    let width = c.requires.width in
    let room : c.look_ahead.new.tables.files.room ≡ length c.args.tables.now.sums =
    c.look_ahead.ensures.room ∙ ap (λ (f : FilesValue). f.room) c.count_all.ensures.files ∙ c.requires.room in
    let ready : IsReady c.args.over.now c.args.aim c.args.stands.now c.look_ahead.new.tables.files.room =
    subst (λ (n : ℕ). IsReady c.args.over.now c.args.aim c.args.stands.now n) (sym room) c.requires.ready in
    let rows : c.look_ahead.new.memo.rows ≡ c.args.over.now.rows.items = c.look_ahead.ensures.rows ∙ c.count_all.ensures.rows ∙ c.requires.rows in
    let moves : c.look_ahead.new.memo.moves ≡ moves_for c.args.over.now.records (goes c.args.aim.seen c.args.aim.need) =
    c.look_ahead.ensures.moves ∙ c.count_all.ensures.moves ∙ c.requires.moves in
    let rising : AllPairs (λ (low high : NextRank). low.rank < high.rank) c.as_slice-found.result.now = rw c.as_slice-found.ensures.value c.in_ok-ranks.ensures.rising in
    let below : All (λ (next : NextRank). next.rank < c.look_ahead.new.tables.files.room) c.as_slice-found.result.now =
    rw c.as_slice-found.ensures.value
    (subst (λ (n : ℕ). All (λ (next : NextRank). next.rank < n) found) (c.count_all.ensures.sums ∙ sym room)
    (next-below c.args.least c.args.least c.count_all.new.tables.sums found c.in_ok-ranks.ensures)) in
    let laid : (end : ℕ) × AreLaidOut 0 c.as_slice-found.result.now end = rw c.as_slice-found.ensures.value c.in_ok-ranks.ensures.laid_out in
    let same : course_of c.args.memo.now places ≡ course_of c.look_ahead.new.memo places =
    sym (same-course c.look_ahead.new.memo c.args.memo.now places (c.look_ahead.ensures.rows ∙ c.count_all.ensures.rows) (c.look_ahead.ensures.moves ∙ c.count_all.ensures.moves)) in
    let all : (groups : List (List Stand)) → AreGroups c.args.stands.now groups
    → (sequences : List (List Visit)) × AllZip (AreVisits (course_of c.look_ahead.new.memo places)) groups sequences
    × HaveAllPlaces (ranks_of c.args.over.now.records.table) c.args.aim sequences c.as_slice-found.result.now = λ groups are.
    subst (λ (l : List NextRank). (sequences : List (List Visit)) × AllZip (AreVisits (course_of c.look_ahead.new.memo places)) groups sequences
    × HaveAllPlaces (ranks_of c.args.over.now.records.table) c.args.aim sequences l) (sym c.as_slice-found.ensures.value)
    (subst (λ (course : Course). (sequences : List (List Visit)) × AllZip (AreVisits course) groups sequences
    × HaveAllPlaces (ranks_of c.args.over.now.records.table) c.args.aim sequences found) same
    (summed-sequences (course_of c.args.memo.now places) groups (ranks_of c.args.over.now.records.table) c.args.aim c.args.weights.now c.count_all.new.tables.sums
    (c.in_ok-next.ensures.counted groups are) c.args.least found c.in_ok-ranks.ensures)) in
    let kept : length c.args.stands.now ≤ c.in_ok-next.next → c.look_ahead.new.tables.visits ≡ c.count_all.new.tables.visits =
    none-holds (length c.args.stands.now ≤ c.in_ok-next.next → c.look_ahead.new.tables.visits ≡ c.count_all.new.tables.visits) c.in_ok-longer.longer c.in_default.is c.in_ok-longer.ensures.visits in
    let visits : length c.args.stands.now ≤ c.in_ok-next.next → (groups : List (List Stand)) → AreGroups c.args.stands.now groups
    → AreWalked (course_of c.look_ahead.new.memo places) groups [] c.look_ahead.new.tables.visits = λ whole groups are.
    subst (λ (v : List Visit). AreWalked (course_of c.look_ahead.new.memo places) groups [] v) (sym (kept whole))
    (subst (λ (course : Course). AreWalked course groups [] c.count_all.new.tables.visits) same (c.in_ok-next.ensures.visits whole groups are)) in
    search rules
