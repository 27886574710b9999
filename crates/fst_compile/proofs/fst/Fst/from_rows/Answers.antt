use Rattle.std.proofs.Common.{length, arith}
use Rattle.fst_compile.specs.Transducers.{AreRowsOf}
use Rattle.fst_compile.proofs.TransducerLemmas.{leads_as_rows, rows_labelled}
use Rattle.fst_compile.proofs.fst.Fst.from_rows.Goals as goal

pub invariant_of-result : goal.invariant_of-result
invariant_of-result c =
    let rows : AreRowsOf c.args.labels.items c.args.rows.now c.in_ok-edges.edges.lists (length c.args.rows.now) = rw c.as_slice.ensures.value at c.in_ok-edges.ensures in (
      rows.are,
      omega (arith, rows.count, c.requires.rows, c.args.labels.ok.0),
      omega (arith, c.requires.few, c.args.labels.ok.0),
      λ state has. omega (arith, c.requires.finals state has, c.args.labels.ok.0),
    )

pub returns-clause-edges : goal.returns-clause-edges
returns-clause-edges c =
    leads_as_rows c.args.labels.items c.args.rows.now c.in_ok-edges.edges.lists (rw c.as_slice.ensures.value at c.in_ok-edges.ensures)

pub returns-clause-labelled : goal.returns-clause-labelled
returns-clause-labelled c =
    let rows : AreRowsOf c.args.labels.items c.args.rows.now c.in_ok-edges.edges.lists (length c.args.rows.now) = rw c.as_slice.ensures.value at c.in_ok-edges.ensures in
    rows_labelled c.args.labels.items c.in_ok-edges.edges.lists rows.are
