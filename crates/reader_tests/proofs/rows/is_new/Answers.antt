use Rattle.std.proofs.Common.{◌≡◌, ◌≢◌, ℕ, ◌<◌, List, get_or, sym, ap, ◌∙◌, arith, below_more, true≢false}
use Rattle.mine_model.specs.declared.item.Item.{Item}
use Rattle.mine_model.specs.declared.row.Row.{Row}
use Rattle.std.proofs.lemmas.List.{get_or_default}
use Rattle.std.proofs.lemmas.Slice.Eq.{slice_eq-Decides}
use Rattle.mine_model.proofs.ApartLemmas.{item_eq-Decides}
use Rattle.reader_tests.proofs.rows.is_new.Goals as goal

pub loop-k-preserved : goal.loop-k-preserved
loop-k-preserved c = λ m d less.
    let rows : List Row = c.args.rows.now in
    let at : ℕ = c.args.at in
    let k : ℕ = c.loop-k.k in
    let here : (get_or rows k d).pattern ≢ (get_or rows at d).pattern = λ e.
    let decides = slice_eq-Decides item_eq-Decides c.items.result.now c.items-in-loop-k.result.now c.eq.result c.eq.ensures in
    let one : c.items.result.now ≡ (get_or rows k d).pattern =
    c.items.ensures ∙ ap (λ (r : Row). r.pattern) (get_or_default rows k c.index-rows-k.result d (omega arith)) in
    let other : c.items-in-loop-k.result.now ≡ (get_or rows at d).pattern =
    c.items-in-loop-k.ensures ∙ ap (λ (r : Row). r.pattern) (get_or_default rows at c.index-rows-at.result d (omega arith)) in
    true≢false (sym (decides.1 (one ∙ e ∙ sym other)) ∙ c.if-eq.false) in
    below_more (λ (n : ℕ). (get_or rows n d).pattern ≢ (get_or rows at d).pattern) k (λ n before. c.loop-k.invariant n d before) here m less
