use Rattle.std.proofs.Common.{◌≡◌, ◌∙◌, map, true, false, sym, ap, subst, List}
use Rattle.std.proofs.lemmas.Result.{IfOk-weaker}
use Rattle.walk_memo.specs.Moves.{move_sets}
use Rattle.walk_places.specs.declared.places.Record.{Record}
use Rattle.place_records.specs.Twins.{move_in, twin_sets}
use Rattle.place_records.specs.Filled.{AreMade, AreFilled}
use Rattle.place_records.proofs.making.make_by.Goals as goal

pub returns : goal.returns
returns g c =
    let twins = c.fill.new.twins in
    IfOk-weaker c.with_moves.result
    (λ made. (made.places ≡ c.in_ok-places.places) × (map (move_sets {W = g.row.W}) made.early.items ≡ map (move_in false) (map (twin_sets {W = g.row.W}) c.as_slice.result.now))
    × (map (move_sets {W = g.row.W}) made.late.items ≡ map (move_in true) (map (twin_sets {W = g.row.W}) c.as_slice.result.now)))
    (λ made. AreMade c.args.job.now c.args.bound c.args.kinds.now c.args.sequences.now made.places (map (move_sets {W = g.row.W}) made.early.items) (map (move_sets {W = g.row.W}) made.late.items))
    (λ made h. record {
      twins = twins.twins;
      filled = subst (λ (places : List Record). AreFilled c.args.job.now c.args.bound twins.twins c.args.kinds.now c.args.sequences.now places) (sym h.0) c.in_ok-places.ensures.places;
      early_are = h.1 ∙ ap (map (move_in false)) c.as_slice.ensures;
      late_are = h.2 ∙ ap (map (move_in true)) c.as_slice.ensures;
    }) c.with_moves.ensures
