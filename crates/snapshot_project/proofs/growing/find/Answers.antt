use Rattle.std.proofs.Common.{◌≡◌, ◌∙◌, ◌+◌, ◌-◌, ℕ, Some, List, length, sym, ap, arith}
use Rattle.std.proofs.lemmas.Result.{IfOk-weaker}
use Rattle.std.specs.Arc.{arc_value}
use Rattle.sequence_grids.specs.Grids.{GridList}
use Rattle.place_records.specs.Ranks.{ranks_of}
use Rattle.snapshot_project.specs.declared.part.Ground.{Ground}
use Rattle.snapshot_project.specs.declared.terrain.AnyTerrain.TheVariants.{One, Four, Wide}
use Rattle.snapshot_project.specs.Terrains.{part_on}
use Rattle.snapshot_project.specs.Rooms.{RoomValue, IsKnown}
use Rattle.snapshot_project.specs.Ahead.{items_if}
use Rattle.snapshot_project.specs.Founds.{course_over, AreFound, IsFoundIn}
use Rattle.snapshot_project.proofs.FoundLemmas.{kept-here, known-is, known-holds, found-in}
use Rattle.snapshot_project.proofs.growing.find.Goals as goal

pub returns-in-One-clause-found : goal.returns-in-One-clause-found
returns-in-One-clause-found c =
    let over = c.in-One.over in
    let made : Ground = arc_value c.in-Some.ground in
    let sums : ℕ = length c.room.inside.tables.sums in
    let weights : List ℕ = c.as_slice-weights.result.now in
    let (some, files, few, all) = c.room.invariant in
    let known : IsKnown c.room.inside.one c.room.inside.four c.room.inside.wide made =
    known-holds (λ it. IsKnown c.room.inside.one c.room.inside.four c.room.inside.wide (arc_value it)) c.room.inside.known c.in-Some.ground c.in-Some.is all in
    let told : weights ≡ made.weights.items = c.as_slice-weights.ensures.value ∙ ap (λ (m : Ground). m.weights.items) c.deref.ensures in
    let is : made.terrain ≡ One over = ap (λ (m : Ground). m.terrain) (sym c.deref-2.ensures) ∙ c.in-One.is in
    let room : sums ≡ c.args.room.now.ranks + 1 = omega (arith, ap (λ (r : RoomValue). r.ranks) c.room.view_is, some) in
    IfOk-weaker c.find_over.result
    (λ found. AreFound (course_over over.rows.items over.records c.args.aim) (ranks_of over.records.table) c.args.aim weights c.args.least sums c.args.stands.now found.ranks.items found.run.stands (items_if found.longer))
    (λ found. (part : GridList) → c.args.room.now.part ≡ Some part → IsFoundIn part c.args.aim c.args.least (c.args.room.now.ranks + 1) c.args.stands.now found.ranks.items found.run.stands (items_if found.longer))
    (λ found are part knows.
    let same : part_on made ≡ part = known-is (λ it. arc_value it) c.room.inside.known c.in-Some.ground c.in-Some.is c.args.room.now (sums - 1) c.room.view_is part knows in
    let (floor, weigh) = kept-here (part_on made) part same made.terrain (One over) is made.weights.items weights told known.kept in
    found-in 1 part over.rows.items over.records floor weights weigh c.args.aim c.args.least sums (c.args.room.now.ranks + 1) room c.args.stands.now found.ranks.items found.run.stands (items_if found.longer) are)
    c.find_over.ensures.found

pub returns-in-Four-clause-found : goal.returns-in-Four-clause-found
returns-in-Four-clause-found c =
    let over = c.in-Four.over in
    let made : Ground = arc_value c.in-Some.ground in
    let sums : ℕ = length c.room.inside.tables.sums in
    let weights : List ℕ = c.as_slice-weights.result.now in
    let (some, files, few, all) = c.room.invariant in
    let known : IsKnown c.room.inside.one c.room.inside.four c.room.inside.wide made =
    known-holds (λ it. IsKnown c.room.inside.one c.room.inside.four c.room.inside.wide (arc_value it)) c.room.inside.known c.in-Some.ground c.in-Some.is all in
    let told : weights ≡ made.weights.items = c.as_slice-weights.ensures.value ∙ ap (λ (m : Ground). m.weights.items) c.deref.ensures in
    let is : made.terrain ≡ Four over = ap (λ (m : Ground). m.terrain) (sym c.deref-2.ensures) ∙ c.in-Four.is in
    let room : sums ≡ c.args.room.now.ranks + 1 = omega (arith, ap (λ (r : RoomValue). r.ranks) c.room.view_is, some) in
    IfOk-weaker c.find_over-in-Four.result
    (λ found. AreFound (course_over over.rows.items over.records c.args.aim) (ranks_of over.records.table) c.args.aim weights c.args.least sums c.args.stands.now found.ranks.items found.run.stands (items_if found.longer))
    (λ found. (part : GridList) → c.args.room.now.part ≡ Some part → IsFoundIn part c.args.aim c.args.least (c.args.room.now.ranks + 1) c.args.stands.now found.ranks.items found.run.stands (items_if found.longer))
    (λ found are part knows.
    let same : part_on made ≡ part = known-is (λ it. arc_value it) c.room.inside.known c.in-Some.ground c.in-Some.is c.args.room.now (sums - 1) c.room.view_is part knows in
    let (floor, weigh) = kept-here (part_on made) part same made.terrain (Four over) is made.weights.items weights told known.kept in
    found-in 4 part over.rows.items over.records floor weights weigh c.args.aim c.args.least sums (c.args.room.now.ranks + 1) room c.args.stands.now found.ranks.items found.run.stands (items_if found.longer) are)
    c.find_over-in-Four.ensures.found

pub returns-in-Wide-clause-found : goal.returns-in-Wide-clause-found
returns-in-Wide-clause-found c =
    let over = c.in-Wide.over in
    let made : Ground = arc_value c.in-Some.ground in
    let sums : ℕ = length c.room.inside.tables.sums in
    let weights : List ℕ = c.as_slice-weights.result.now in
    let (some, files, few, all) = c.room.invariant in
    let known : IsKnown c.room.inside.one c.room.inside.four c.room.inside.wide made =
    known-holds (λ it. IsKnown c.room.inside.one c.room.inside.four c.room.inside.wide (arc_value it)) c.room.inside.known c.in-Some.ground c.in-Some.is all in
    let told : weights ≡ made.weights.items = c.as_slice-weights.ensures.value ∙ ap (λ (m : Ground). m.weights.items) c.deref.ensures in
    let is : made.terrain ≡ Wide over = ap (λ (m : Ground). m.terrain) (sym c.deref-2.ensures) ∙ c.in-Wide.is in
    let room : sums ≡ c.args.room.now.ranks + 1 = omega (arith, ap (λ (r : RoomValue). r.ranks) c.room.view_is, some) in
    IfOk-weaker c.find_over-in-Wide.result
    (λ found. AreFound (course_over over.rows.items over.records c.args.aim) (ranks_of over.records.table) c.args.aim weights c.args.least sums c.args.stands.now found.ranks.items found.run.stands (items_if found.longer))
    (λ found. (part : GridList) → c.args.room.now.part ≡ Some part → IsFoundIn part c.args.aim c.args.least (c.args.room.now.ranks + 1) c.args.stands.now found.ranks.items found.run.stands (items_if found.longer))
    (λ found are part knows.
    let same : part_on made ≡ part = known-is (λ it. arc_value it) c.room.inside.known c.in-Some.ground c.in-Some.is c.args.room.now (sums - 1) c.room.view_is part knows in
    let (floor, weigh) = kept-here (part_on made) part same made.terrain (Wide over) is made.weights.items weights told known.kept in
    found-in 17 part over.rows.items over.records floor weights weigh c.args.aim c.args.least sums (c.args.room.now.ranks + 1) room c.args.stands.now found.ranks.items found.run.stands (items_if found.longer) are)
    c.find_over-in-Wide.ensures.found
