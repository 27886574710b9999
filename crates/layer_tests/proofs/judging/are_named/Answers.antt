use Rattle.std.proofs.Common.{◌<◌, ◌≤◌, ℕ, List, length, get_or, sym, subst, arith, rules, All, IsTrue}
use Rattle.std.proofs.lemmas.List.{take_all}
use Rattle.std.proofs.lemmas.List.Elements.{All-more}
use Rattle.mine_model.specs.declared.row.Row.{Row}
use Rattle.mine_model.specs.Names.{HasName}
use Rattle.layer_tests.proofs.judging.are_named.Goals as goal

pub loop-row-preserved : goal.loop-row-preserved
loop-row-preserved c =
    let is : IsTrue c.have_names.result = search (rules, c.if-not-have_names.false) in
    let named : All (HasName c.args.names.now) c.row-item.result.pattern =
    subst (All (HasName c.args.names.now)) c.items.ensures (c.have_names.ensures is) in
    All-more (λ row. All (HasName c.args.names.now) row.pattern) c.args.rows.now c.loop-row.row-index c.row-item.result (omega arith)
    c.loop-row.invariant (subst (λ (row : Row). All (HasName c.args.names.now) row.pattern) c.row-item.is named)

pub returns : goal.returns
returns c = λ is.
    subst (All (λ row. All (HasName c.args.names.now) row.pattern)) (take_all c.loop-row.row-index c.args.rows.now (omega arith)) c.loop-row.invariant
