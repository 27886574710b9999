use Rattle.std.proofs.Common.{◌≡◌, ◌∙◌, ◌+◌, ◌-◌, ◌<◌, length, drop, take, refl, sym, ap, subst, arith, length-drop}
use Rattle.std.specs.List.{Contains}
use Rattle.std.proofs.lemmas.List.{take_rest, drop_all}
use Rattle.mine_model.proofs.ListLemmas.{Contains-none}
use Rattle.fst_compile.specs.Transducer.{Transducer}
use Rattle.sequence_grids.specs.Grids.{items_at, rest_at}
use Rattle.pivot_partition.specs.Tops.{IsRowOf, row_at}
use Rattle.pivot_partition.proofs.NumberLemmas.{row-next, row-later}
use Rattle.pivot_partition.proofs.MarkLemmas.{marked-inside}
use Rattle.pivot_partition.proofs.FrontLemmas.{found-begin, found-all}
use Rattle.pivot_partition.proofs.FindLemmas.{outputs-kept, outputs-within, find-step}
use Rattle.pivot_partition.proofs.finding.find.Goals as goal

pub overflow_sub-row : goal.overflow_sub-row
overflow_sub-row c = omega (arith, c.requires.table.long, c.states-states.ensures.states, ap (λ (m : Transducer). length m.labels) c.fst-fst.ensures.transducer)

pub loop-position-init : goal.loop-position-init
loop-position-init c = record {
  front_long = c.begin.ensures.long;
  entered_long = refl;
  marks_long = refl;
  marked = c.requires.marked;
  row = omega (arith, c.requires.table.long, c.states-states.ensures.states, ap (λ (m : Transducer). length m.labels) c.fst-fst.ensures.transducer);
  found = found-begin c.args.job.now c.fst-fst.ensures.whole (items_at c.args.grids.now 0) c.begin.new.front c.args.found.now.items c.requires.few c.begin.ensures.first
      (λ state least inside. c.begin.ensures.others state least (omega (arith, inside, c.requires.front)))
      (λ rank held. Contains-none rank (subst (λ l. Contains l rank) c.requires.empty held));
}

pub reading-reading-requires-clause-pos : goal.reading-reading-requires-clause-pos
reading-reading-requires-clause-pos c = omega (arith, c.loop-position-test.true, c.requires.count)

pub overflow_sub-row-in-loop-position : goal.overflow_sub-row-in-loop-position
overflow_sub-row-in-loop-position c =
    omega (
      arith,
      c.loop-position.invariant.row,
      row-next c.args.job.now (items_at c.args.grids.now 0) c.loop-position.position (omega (arith, c.loop-position-test.true, c.requires.count)),
      c.states-states.ensures.states,
      ap (λ (m : Transducer). length m.labels) c.fst-fst.ensures.transducer,
    )

pub spread-requires-clause-front : goal.spread-requires-clause-front
spread-requires-clause-front c = omega (arith, c.loop-position.invariant.front_long, c.requires.front, ap (λ (m : Transducer). length m.labels) c.fst-fst.ensures.transducer)

pub spread-requires-clause-entered : goal.spread-requires-clause-entered
spread-requires-clause-entered c = omega (arith, c.loop-position.invariant.entered_long, c.requires.entered, ap (λ (m : Transducer). length m.labels) c.fst-fst.ensures.transducer)

pub slice_bounds-pass-count : goal.slice_bounds-pass-count
slice_bounds-pass-count c =
    omega (arith, c.loop-position.invariant.row, row-later c.args.job.now (items_at c.args.grids.now 0) 0 c.loop-position.position (omega arith), c.requires.table.long)

pub pass-requires-clause-some : goal.pass-requires-clause-some
pass-requires-clause-some c = omega (arith, c.loop-position.invariant.front_long, c.requires.front)

pub pass-requires-clause-few : goal.pass-requires-clause-few
pass-requires-clause-few c = omega (arith, c.loop-position.invariant.front_long, c.requires.front, c.states-states.ensures.states, c.states-states.ensures.few, ap (λ (m : Transducer). length m.labels) c.fst-fst.ensures.transducer)

pub pass-requires-clause-below : goal.pass-requires-clause-below
pass-requires-clause-below c =
    omega (
      arith,
      ap length (take_rest c.args.table.now (c.loop-position.row - c.states-states.result)),
      length-drop (c.loop-position.row - c.states-states.result) c.args.table.now,
      c.loop-position.invariant.front_long,
      c.requires.front,
      c.loop-position.invariant.row,
      row-later c.args.job.now (items_at c.args.grids.now 0) 0 c.loop-position.position (omega arith),
      c.requires.table.long,
      c.states-states.ensures.states,
      ap (λ (m : Transducer). length m.labels) c.fst-fst.ensures.transducer,
    )

pub pass-requires-clause-entered : goal.pass-requires-clause-entered
pass-requires-clause-entered c = omega (arith, c.spread.ensures.long, c.loop-position.invariant.entered_long, c.requires.entered, c.loop-position.invariant.front_long, c.requires.front)

pub pass-requires-clause-outputs : goal.pass-requires-clause-outputs
pass-requires-clause-outputs c = λ state least less.
    outputs-kept c.args.job.now c.fst-fst.ensures.whole c.args.grids.now c.requires.problem c.requires.bound c.requires.few c.loop-position.position
    (omega (arith, c.loop-position-test.true, c.requires.count)) c.reading-reading.result c.reading-reading.ensures state least (omega (arith, less, c.loop-position.invariant.front_long, c.requires.front))

pub pass-requires-clause-within : goal.pass-requires-clause-within
pass-requires-clause-within c = λ state least less.
    outputs-within c.args.job.now c.fst-fst.ensures.whole c.args.grids.now c.requires.problem c.requires.bound c.requires.few c.loop-position.position
    (omega (arith, c.loop-position-test.true, c.requires.count)) c.reading-reading.result c.reading-reading.ensures (length c.loop-position.marks)
    (omega (arith, c.loop-position.invariant.marks_long, c.requires.marks)) state least (omega (arith, less, c.loop-position.invariant.front_long, c.requires.front))

pub loop-position-preserved : goal.loop-position-preserved
loop-position-preserved c =
    let inside : c.loop-position.position < length (items_at c.args.grids.now 0) = omega (arith, c.loop-position-test.true, c.requires.count) in
    let next = row-next c.args.job.now (items_at c.args.grids.now 0) c.loop-position.position inside in
    let row : c.loop-position.row - c.states-states.result ≡ row_at c.args.job.now (items_at c.args.grids.now 0) (c.loop-position.position + 1) =
    omega (arith, next, c.loop-position.invariant.row, c.states-states.ensures.states, ap (λ (m : Transducer). length m.labels) c.fst-fst.ensures.transducer) in
    let slice = take_rest c.args.table.now (c.loop-position.row - c.states-states.result) ∙ ap (λ n. drop n c.args.table.now) row in
    let spreads = rw c.fst-fst.ensures.transducer at c.spread.ensures.least in
    record {
      front_long = c.pass.ensures.front_long ∙ c.loop-position.invariant.front_long;
      entered_long = c.spread.ensures.long ∙ c.loop-position.invariant.entered_long;
      marks_long = c.pass.ensures.marks_long ∙ c.loop-position.invariant.marks_long;
      marked = c.pass.ensures.marked;
      row = row;
      found = find-step c.args.job.now c.fst-fst.ensures.whole c.args.grids.now c.requires.problem c.requires.bound c.requires.few c.loop-position.position inside
          c.reading-reading.result c.reading-reading.ensures c.loop-position.front c.spread.new.entered
          (take (length c.args.table.now - (c.loop-position.row - c.states-states.result)) (drop (c.loop-position.row - c.states-states.result) c.args.table.now))
          c.pass.new.front c.loop-position.found.items c.pass.new.found.items (length c.loop-position.front)
          (omega (arith, c.loop-position.invariant.front_long, c.requires.front))
          (subst (IsRowOf c.args.job.now (rest_at c.args.grids.now 0 (c.loop-position.position + 1))) (sym slice) (c.requires.table.rows (c.loop-position.position + 1) (omega arith) (omega (arith, inside))))
          spreads c.in_ok-pass.ensures.found c.in_ok-pass.ensures.start c.in_ok-pass.ensures.least
          (λ rank held.
          let below = marked-inside c.pass.new.marks rank ((c.pass.ensures.marked.exact rank).0 held) in
          omega (arith, below, c.pass.ensures.marks_long, c.loop-position.invariant.marks_long, c.requires.marks))
          c.loop-position.invariant.found;
    }

pub returns-clause-found : goal.returns-clause-found
returns-clause-found c =
    found-all c.args.job.now c.fst-fst.ensures.whole (items_at c.args.grids.now 0) c.loop-position.front c.loop-position.found.items c.loop-position.position
    (drop_all c.loop-position.position (items_at c.args.grids.now 0) (omega (arith, c.loop-position-test.false, c.requires.count))) c.loop-position.invariant.found
