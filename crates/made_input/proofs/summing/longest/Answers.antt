use Rattle.std.proofs.Common.{◌≡◌, List, max, length, ap, sym, ◌∙◌, get_or, rules}
use Rattle.mine_model.specs.declared.item.Item.{Item}
use Rattle.mine_model.specs.declared.row.Row.{Row}
use Rattle.made_input.proofs.SummingLemmas.{longest-next}
use Rattle.made_input.proofs.summing.longest.Goals as goal

pub loop-row-preserved : goal.loop-row-preserved
loop-row-preserved c = λ names.
    let greater : c.max-longest.result ≡ max c.loop-row.longest (length c.items.result.now) = search rules in
    greater
    ∙ ap (max c.loop-row.longest) (ap (λ (l : List Item). length l) c.items.ensures ∙ ap (λ (r : Row). length r.pattern) c.row-item.is)
    ∙ ap (λ n. max n (length (get_or c.args.rows.now c.loop-row.row-index c.row-item.result).pattern)) (c.loop-row.invariant names)
    ∙ sym (longest-next names c.args.rows.now c.loop-row.row-index c.row-item.result c.loop-row-test.true)
