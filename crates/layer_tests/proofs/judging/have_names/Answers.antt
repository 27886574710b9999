use Rattle.std.proofs.Common.{◌<◌, ◌≤◌, ℕ, List, length, get_or, subst, arith, All}
use Rattle.std.proofs.lemmas.List.{take_all}
use Rattle.std.proofs.lemmas.List.Elements.{All-more}
use Rattle.mine_model.specs.declared.item.Item.{Item}
use Rattle.mine_model.specs.Names.{HasName}
use Rattle.layer_tests.proofs.judging.have_names.Goals as goal

abbrev no_item : Item
no_item = record { 0 = 0 }

pub loop-item-preserved : goal.loop-item-preserved
loop-item-preserved c =
    let counted = c.count.ensures.count in
    let less = c.if-item-count.false in
    let here : HasName c.args.names.now (get_or c.args.items.now c.loop-item.item-index no_item) = omega arith in
    All-more (HasName c.args.names.now) c.args.items.now c.loop-item.item-index no_item (omega arith) c.loop-item.invariant here

pub returns : goal.returns
returns c = λ is.
    subst (All (HasName c.args.names.now)) (take_all c.loop-item.item-index c.args.items.now (omega arith)) c.loop-item.invariant
