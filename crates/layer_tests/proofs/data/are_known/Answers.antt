use Rattle.std.proofs.Common.{◌<◌, get_or, subst, arith, All}
use Rattle.std.proofs.lemmas.List.{take_all}
use Rattle.std.proofs.lemmas.List.Elements.{All-more}
use Rattle.mine_model.specs.declared.item.Item.{Item}
use Rattle.mine_model.specs.Ancestry.{item_at}
use Rattle.layer_tests.proofs.data.are_known.Goals as goal

pub loop-item-preserved : goal.loop-item-preserved
loop-item-preserved c =
    let here : (get_or c.args.items.now c.loop-item.item-index (item_at 0)).0 < 11 = omega (arith, c.if-item-ge11.false) in
    All-more (λ t. t.0 < 11) c.args.items.now c.loop-item.item-index (item_at 0) (omega arith) c.loop-item.invariant here

pub returns : goal.returns
returns c = λ is.
    subst (All (λ (t : Item). t.0 < 11)) (take_all c.loop-item.item-index c.args.items.now (omega arith)) c.loop-item.invariant
