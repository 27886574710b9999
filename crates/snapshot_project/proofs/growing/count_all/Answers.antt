use Rattle.std.proofs.Common.{◌≡◌, ◌∙◌, ℕ, List, length, drop, refl, ap, sym, subst, rules}
use Rattle.std.proofs.lemmas.List.{length-replicate}
use Rattle.place_walk.specs.declared.stand.Stand.{Stand}
use Rattle.place_walk.specs.Courses.{course_of}
use Rattle.place_walk.specs.Groups.{AreGroups}
use Rattle.stand_sums.specs.Sums.{Tally, empty_tally}
use Rattle.place_records.specs.Ranks.{ranks_of}
use Rattle.snapshot_project.specs.Founds.{IsReady, AreSummed}
use Rattle.snapshot_project.proofs.FoundLemmas.{summed-none}
use Rattle.snapshot_project.proofs.growing.count_all.Goals as goal

pub count_some-requires : goal.count_some-requires
count_some-requires g c =
    let width = c.requires.width in
    let long : length c.args.tables.now.sums ≡ length c.clear.new.self =
    sym (ap length c.clear.ensures ∙ length-replicate (length c.args.tables.now.sums) empty_tally) in
    let ready : IsReady c.args.over.now c.args.aim c.args.stands.now (length c.clear.new.self) =
    subst (λ (n : ℕ). IsReady c.args.over.now c.args.aim c.args.stands.now n) long c.requires.ready in
    let rows = c.requires.rows in
    let moves = c.requires.moves in
    let some = c.requires.some in
    let begun : (groups : List (List Stand)) → AreGroups c.args.stands.now groups
    → AreSummed (course_of c.args.memo.now c.args.over.now.records.places) (ranks_of c.args.over.now.records.table) c.args.aim c.args.weights.now groups
    (drop 0 c.args.stands.now) c.clear.new.self = λ groups are.
    subst (λ (sums : List Tally). AreSummed (course_of c.args.memo.now c.args.over.now.records.places) (ranks_of c.args.over.now.records.table) c.args.aim c.args.weights.now groups
    (drop 0 c.args.stands.now) sums) (sym c.clear.ensures)
    (summed-none (course_of c.args.memo.now c.args.over.now.records.places) (ranks_of c.args.over.now.records.table) c.args.aim c.args.weights.now c.args.stands.now
    (drop 0 c.args.stands.now) (length c.args.tables.now.sums) groups refl are) in
    search rules
