use Rattle.std.proofs.Common.{◌≡◌, ◌∙◌, subst, ℕ, List, get_or}
use Rattle.std.proofs.lemmas.List.{get_or_default}
use Rattle.fst_compile.specs.declared.edge.Edge.{Edge}
use Rattle.fst_compile.specs.Transducers.{IsRow, LeadTo, AreRowsOf}
use Rattle.fst_compile.proofs.TransducerLemmas.{are_rows-more}
use Rattle.fst_compile.proofs.rowing.edges_of_rows.Goals as goal

pub loop-row-preserved : goal.loop-row-preserved
loop-row-preserved c =
    let row : c.row-item.result ≡ get_or c.args.rows.now c.loop-row.row-index 0 = c.row-item.is ∙ get_or_default c.args.rows.now c.loop-row.row-index c.row-item.result 0 c.loop-row-test.true in
    let leads : LeadTo (get_or c.args.rows.now c.loop-row.row-index 0) c.fill.new.edges.items = subst (λ (r : ℕ). LeadTo r c.fill.new.edges.items) row c.in_ok-fill.ensures.targets in
    rw (c.in_ok-push.ensures.ok, c.as_slice.ensures.value)
    (are_rows-more c.args.labels.now c.args.rows.now c.loop-row.edges.lists c.fill.new.edges.items c.loop-row.row-index c.loop-row.invariant c.in_ok-fill.ensures.row leads)
