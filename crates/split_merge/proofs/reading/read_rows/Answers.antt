use Rattle.std.proofs.Common.{List, ℕ, sym, subst}
use Rattle.mine_model.specs.declared.row.Row.{Row}
use Rattle.split_merge.specs.Rows.{AreRowsOfLines}
use Rattle.split_merge.proofs.reading.read_rows.Goals as goal

pub returns-clause-refused : goal.returns-clause-refused
returns-clause-refused g c lines why are is no_read no_memory =
    c.read_all-outcome.ensures.refused lines why
    (subst (λ (rows : List Row). AreRowsOfLines c.args.threshold lines c.replace.result rows) (sym c.replace-2.ensures.value)
    (subst (λ (names : List (List ℕ)). AreRowsOfLines c.args.threshold lines names c.args.held.now) (sym c.replace.ensures.value) are))
    is no_read no_memory
