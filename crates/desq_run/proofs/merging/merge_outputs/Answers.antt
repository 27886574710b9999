use Rattle.std.proofs.Common.{sym, ap, ◌∙◌, length}
use Rattle.mine_model.proofs.ListLemmas.{written_back}
use Rattle.desq_run.proofs.MergedLemmas.{ordered-named}
use Rattle.desq_run.proofs.merging.merge_outputs.Goals as goal

pub returns-clause-named : goal.returns-clause-named
returns-clause-named g c =
    let back = written_back c.order.new.rows c.in_ok-rows.rows.items c.in_ok-rows.rows.len
    (c.in_ok-rows.rows.ok.0 ∙ sym (c.order.auto.rows ∙ ap length c.as_mut_slice.ensures.value)) in
    let same = rw (c.as_mut_slice.ensures.value, c.in_ok-rows.ensures) at c.order.ensures.same_rows in
    rw back
    (ordered-named _ _ _ c.read_outputs.new.names c.read_outputs.new.held c.order.new.rows c.in_ok-read_outputs.ensures.taken same)
