use Rattle.std.proofs.Common.{◌≡◌, ◌∙◌, ◌+◌, ◌-◌, ◌<◌, length, drop, take, refl, sym, ap, subst, arith, length-drop}
use Rattle.std.proofs.lemmas.List.{take_rest}
use Rattle.fst_compile.specs.Transducer.{Transducer}
use Rattle.sequence_grids.specs.Grids.{items_at}
use Rattle.pivot_partition.specs.Tops.{IsTableFrom, row_at}
use Rattle.pivot_partition.proofs.TopLemmas.{end-row}
use Rattle.pivot_partition.proofs.TableLemmas.{table-end}
use Rattle.pivot_partition.proofs.FindLemmas.{outputs-kept, table-step}
use Rattle.pivot_partition.proofs.table.fill_table.Goals as goal

pub loop-position-init : goal.loop-position-init
loop-position-init c =
    let last = rw (c.clear.ensures.items, c.fst-fst.ensures.transducer) at c.in_ok-push_last.ensures in
    let (row, is, long, each) = last in
    record {
      long = refl;
      table = subst (IsTableFrom c.args.job.now (items_at c.args.grids.now 0) c.args.count) (sym is)
          (table-end c.args.job.now (items_at c.args.grids.now 0) c.args.count row c.requires.count long
          (end-row c.args.job.now c.fst-fst.ensures.whole row c.requires.few each));
    }

pub reading-reading-requires-clause-pos : goal.reading-reading-requires-clause-pos
reading-reading-requires-clause-pos c = omega (arith, c.loop-position-test.true, c.loop-position.invariant.table.inside)

pub overflow_sub-start : goal.overflow_sub-start
overflow_sub-start c =
    omega (arith, c.loop-position.invariant.table.long, c.states-states.ensures.states, ap (λ (m : Transducer). length m.labels) c.fst-fst.ensures.transducer, c.len.ensures, c.loop-position.table.ok.0)

pub enter-requires-clause-below : goal.enter-requires-clause-below
enter-requires-clause-below c =
    ap length (take_rest c.deref.result.now (c.len.result - c.states-states.result)) ∙ length-drop (c.len.result - c.states-states.result) c.deref.result.now
    ∙ omega (
      arith,
      c.loop-position.invariant.table.long,
      c.states-states.ensures.states,
      ap (λ (m : Transducer). length m.labels) c.fst-fst.ensures.transducer,
      c.len.ensures,
      c.loop-position.table.ok.0,
      ap length c.deref.ensures.value,
      c.loop-position.invariant.long,
      c.requires.entered,
    )

pub enter-requires-clause-outputs : goal.enter-requires-clause-outputs
enter-requires-clause-outputs c = λ state least less.
    outputs-kept c.args.job.now c.fst-fst.ensures.whole c.args.grids.now c.requires.problem c.requires.bound c.requires.few (c.loop-position.position - 1)
    (omega (arith, c.loop-position-test.true, c.loop-position.invariant.table.inside)) c.reading-reading.result c.reading-reading.ensures state least
    (omega (arith, less, c.loop-position.invariant.long, c.requires.entered))

pub push_row-requires : goal.push_row-requires
push_row-requires c = omega (arith, c.enter.ensures.long, c.loop-position.invariant.long, c.requires.entered, ap (λ (m : Transducer). length m.labels) c.fst-fst.ensures.transducer)

pub loop-position-preserved : goal.loop-position-preserved
loop-position-preserved c =
    let inside : c.loop-position.position - 1 < length (items_at c.args.grids.now 0) = omega (arith, c.loop-position-test.true, c.loop-position.invariant.table.inside) in
    let next : c.loop-position.position ≡ c.loop-position.position - 1 + 1 = omega (arith, c.loop-position-test.true) in
    let start : c.len.result - c.states-states.result ≡ row_at c.args.job.now (items_at c.args.grids.now 0) (c.loop-position.position - 1 + 1) =
    omega (
      arith,
      c.loop-position.invariant.table.long,
      c.states-states.ensures.states,
      ap (λ (m : Transducer). length m.labels) c.fst-fst.ensures.transducer,
      c.len.ensures,
      c.loop-position.table.ok.0,
      ap (row_at c.args.job.now (items_at c.args.grids.now 0)) next,
    ) in
    let pushed = rw c.fst-fst.ensures.transducer at c.in_ok-push_row.ensures in
    let (row, is, long, each) = pushed in
    record {
      long = c.enter.ensures.long ∙ c.loop-position.invariant.long;
      table = subst (IsTableFrom c.args.job.now (items_at c.args.grids.now 0) (c.loop-position.position - 1)) (sym is)
          (table-step c.args.job.now c.fst-fst.ensures.whole c.args.grids.now c.requires.problem c.requires.bound c.requires.few (c.loop-position.position - 1) inside
          c.reading-reading.result c.reading-reading.ensures c.loop-position.table.items
          (take (length c.deref.result.now - (c.len.result - c.states-states.result)) (drop (c.len.result - c.states-states.result) c.deref.result.now)) c.enter.new.entered row
          (subst (λ n. IsTableFrom c.args.job.now (items_at c.args.grids.now 0) n c.loop-position.table.items) next c.loop-position.invariant.table)
          (take_rest c.deref.result.now (c.len.result - c.states-states.result) ∙ ap (λ l. drop (c.len.result - c.states-states.result) l) c.deref.ensures.value ∙ ap (λ n. drop n c.loop-position.table.items) start)
          long
          (λ state p least within below. c.enter.ensures.least state p least (omega (arith, within, c.loop-position.invariant.long, c.requires.entered)) below)
          each);
    }

pub returns-clause-table : goal.returns-clause-table
returns-clause-table c =
    let none : c.loop-position.position ≡ 0 = omega (arith, c.loop-position-test.false) in
    subst (λ n. IsTableFrom c.args.job.now (items_at c.args.grids.now 0) n c.loop-position.table.items) none c.loop-position.invariant.table
