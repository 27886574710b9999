use Rattle.std.proofs.Common.{◌∙◌, sym, ap, length, All}
use Rattle.std.proofs.lemmas.List.Sorted.{All-permutation}
use Rattle.mine_model.specs.declared.row.Row.{Row}
use Rattle.mine_model.specs.Names.{HasName}
use Rattle.mine_model.proofs.ListLemmas.{written_back}
use Rattle.mining_job.specs.Problems.{data_of}
use Rattle.desq_run.proofs.RowLemmas.{rows-named, rows-ordered}
use Rattle.desq_run.proofs.rows.ordered_rows.Goals as goal

pub order-requires-clause-named : goal.order-requires-clause-named
order-requires-clause-named g c =
    rw c.as_mut_slice.ensures.value (rows-named c.args.names.now c.args.job.now.hierarchy.items c.in_ok-rows.field-0.rows.items c.requires.items c.in_ok-rows.ensures.items)

pub returns-clause-rows : goal.returns-clause-rows
returns-clause-rows g c =
    let back = written_back c.order.new.rows c.in_ok-rows.field-0.rows.items c.in_ok-rows.field-0.rows.len
    (c.in_ok-rows.field-0.rows.ok.0 ∙ sym (c.order.auto.rows ∙ ap length c.as_mut_slice.ensures.value)) in
    let same = rw c.as_mut_slice.ensures.value at c.order.ensures.same_rows in
    rw back
    (rows-ordered c.args.names.now c.args.command.now.share (data_of c.args.job.now) c.in_ok-rows.field-0.rows.items c.order.new.rows
    (c.in_ok-rows.ensures.found c.args.names.now c.requires.ties) same c.order.ensures.rises)

pub returns-clause-named : goal.returns-clause-named
returns-clause-named g c =
    let back = written_back c.order.new.rows c.in_ok-rows.field-0.rows.items c.in_ok-rows.field-0.rows.len
    (c.in_ok-rows.field-0.rows.ok.0 ∙ sym (c.order.auto.rows ∙ ap length c.as_mut_slice.ensures.value)) in
    let same = rw c.as_mut_slice.ensures.value at c.order.ensures.same_rows in
    rw back
    (All-permutation (λ (row : Row). All (HasName c.args.names.now) row.pattern) c.in_ok-rows.field-0.rows.items c.order.new.rows same
    (rows-named c.args.names.now c.args.job.now.hierarchy.items c.in_ok-rows.field-0.rows.items c.requires.items c.in_ok-rows.ensures.items))

pub returns-clause-work : goal.returns-clause-work
returns-clause-work g c = λ asked. c.in_ok-rows.ensures.work asked c.args.names.now c.requires.ties
