use Rattle.std.proofs.Common.{rules, ◌∙◌, true, false, List, map, ap, sym, subst, arith}
use Rattle.walk_places.specs.declared.places.Record.{Record}
use Rattle.place_records.specs.Twins.{twin_sets, move_in}
use Rattle.place_records.specs.Filled.{AreFilled}
use Rattle.place_records.proofs.whole.made_by_threads.Goals as goal

pub returns-clause-exact : goal.returns-clause-exact
returns-clause-exact g c i =
    let is = c.in_ok-join_all.ensures.exact i in (
      (λ held. let (_, below, so) = is.0 held in (below, so)),
      (λ h. let (below, so) = h in is.1 (omega arith, below, so)),
    )

pub returns-clause-rising : goal.returns-clause-rising
returns-clause-rising g c = c.in_ok-join_all.ensures.rising

pub returns-clause-made : goal.returns-clause-made
returns-clause-made g c =
    let (places, early, late) = c.in_ok-made.ensures in
    let twins = map (twin_sets {W = g.row.W}) c.join_all.new.joined.twins.keys in
    record {
      twins = twins;
      filled = subst (λ (ps : List Record). AreFilled c.args.job.now c.args.bound twins c.args.alphabet.now.kinds c.join_all.new.joined.sequences.items ps) (sym places) c.in_ok-join_all.ensures.filled;
      early_are = early ∙ ap (λ ts. map (move_in false) (map (twin_sets {W = g.row.W}) ts)) c.as_slice.ensures.keys;
      late_are = late ∙ ap (λ ts. map (move_in true) (map (twin_sets {W = g.row.W}) ts)) c.as_slice.ensures.keys;
    }

pub join_all-requires-after_bounds : goal.join_all-requires-after_bounds
join_all-requires-after_bounds g c =
    let width = c.requires.width in
    let room = c.requires.room in
    let some = c.requires.some in
    let alphabet = c.requires.alphabet in
    let none = c.no_blocks-joined.ensures c.args.job.now c.args.bound c.args.alphabet.now.kinds in
    search rules
