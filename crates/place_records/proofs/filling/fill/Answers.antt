use Rattle.std.proofs.Common.{rules, ◌≡◌, ◌∙◌, ◌^◌, ◌<◌, List, length, arith, ap, sym, subst, Some}
use Rattle.std.specs.List.{slice_get, slice_index}
use Rattle.mine_model.specs.declared.item.Item.{Item}
use Rattle.mine_model.specs.Support.{Sequence}
use Rattle.mine_model.specs.Database.{sequence_at}
use Rattle.mining_job.specs.Problems.{items_of}
use Rattle.sequence_grids.specs.Grids.{GridList}
use Rattle.sequence_grids.specs.Places.{IsTableOf, ArePlaces}
use Rattle.sequence_grids.specs.Tables.{TableValue}
use Rattle.place_records.specs.Records.{goes_with}
use Rattle.place_records.specs.Twins.{dead_twin}
use Rattle.place_records.specs.Filled.{AreKnown, AreHere}
use Rattle.place_records.proofs.NumberLemmas.{TwinsGrow-twice}
use Rattle.place_records.proofs.FillLemmas.{AreFilledTo-more, first-kept}
use Rattle.place_records.proofs.filling.fill.Goals as goal

pub fill_sequence-requires : goal.fill_sequence-requires
fill_sequence-requires g c =
    let before = c.loop-grid.invariant.twins in
    let same : c.sequence-items.result.now ≡ items_of c.args.job.now (slice_index c.args.sequences.now c.loop-grid.grid) =
    c.sequence-items.ensures.items ∙ ap (λ (sequences : List (Sequence Item)). (sequence_at sequences (slice_index c.args.sequences.now c.loop-grid.grid)).items) c.db.ensures.sequences in
    let width = c.requires.width in
    let needed : c.loop-grid.twins.needed ≡ goes_with c.args.bound.need = before.needed ∙ c.requires.needed in
    let table : IsTableOf c.args.job.now c.loop-grid.twins.table = subst (IsTableOf c.args.job.now) (sym before.table) c.requires.kept.table_is in
    let kept : ArePlaces c.args.job.now c.args.bound c.loop-grid.twins.table c.args.kinds.now c.args.kept.now (slice_index c.args.ends.now c.loop-grid.grid) c.sequence-items.result.now =
    subst (ArePlaces c.args.job.now c.args.bound c.loop-grid.twins.table c.args.kinds.now c.args.kept.now (slice_index c.args.ends.now c.loop-grid.grid)) (sym same)
    (subst (λ (v : TableValue). ArePlaces c.args.job.now c.args.bound v c.args.kinds.now c.args.kept.now (slice_index c.args.ends.now c.loop-grid.grid) (items_of c.args.job.now (slice_index c.args.sequences.now c.loop-grid.grid)))
    (sym before.table) (c.requires.kept.grids c.loop-grid.grid c.loop-grid-test.true)) in
    let first : slice_get c.loop-grid.twins.twins 0 ≡ Some dead_twin = first-kept c.args.twins.now.twins c.loop-grid.twins.twins c.requires.first before.twins in
    let known : AreKnown c.loop-grid.twins.twins c.loop-grid.places = c.loop-grid.invariant.filled.known in
    search rules

pub loop-grid-preserved : goal.loop-grid-preserved
loop-grid-preserved g c =
    let before = c.loop-grid.invariant in
    let part : GridList = record { problem = c.args.job.now; bound = c.args.bound; sequences = c.args.sequences.now } in
    let same : c.sequence-items.result.now ≡ items_of c.args.job.now (slice_index c.args.sequences.now c.loop-grid.grid) =
    c.sequence-items.ensures.items ∙ ap (λ (sequences : List (Sequence Item)). (sequence_at sequences (slice_index c.args.sequences.now c.loop-grid.grid)).items) c.db.ensures.sequences in
    let long = c.in_ok-fill_sequence.ensures.long in
    let as_long : length c.sequence-items.result.now ≡ length (items_of c.args.job.now (slice_index c.args.sequences.now c.loop-grid.grid)) = ap length same in
    let room = c.if-len-items.false in
    let count = c.len.ensures in
    let few : length c.fill_sequence.new.places < 2 ^ 32 = omega (arith, long, room, count) in
    let here : AreHere c.args.job.now c.args.bound c.fill_sequence.new.twins.twins c.args.kinds.now (items_of c.args.job.now (slice_index c.args.sequences.now c.loop-grid.grid)) c.fill_sequence.new.places (length c.loop-grid.places) =
    subst (λ (xs : List Item). AreHere c.args.job.now c.args.bound c.fill_sequence.new.twins.twins c.args.kinds.now xs c.fill_sequence.new.places (length c.loop-grid.places)) same c.in_ok-fill_sequence.ensures.here in
    record {
      twins = TwinsGrow-twice c.args.twins.now c.loop-grid.twins c.fill_sequence.new.twins before.twins c.fill_sequence.ensures.twins;
      filled = AreFilledTo-more part c.loop-grid.twins.twins c.fill_sequence.new.twins.twins c.args.kinds.now c.loop-grid.places c.fill_sequence.new.places c.loop-grid.grid before.filled c.loop-grid-test.true
          c.fill_sequence.ensures.twins.twins c.fill_sequence.ensures.grow (omega (arith, long, as_long)) few c.in_ok-fill_sequence.ensures.known here;
    }
