use Rattle.std.proofs.Common.{◌≡◌, ◌≤◌, length, get_or, subst, arith, ◌∙◌, ap, length-set}
use Rattle.std.proofs.lemmas.List.{length-replicate, get_or_default}
use Rattle.mine_model.specs.declared.item.Item.{Item}
use Rattle.mine_model.specs.Ancestry.{item_at}
use Rattle.mine_model.proofs.RankLemmas.{length-le_from_items, IsFilled, IsFilled-none, IsFilled-more, IsFilled-all, zeros-everywhere}
use Rattle.mine_model.proofs.ranks.table_of.Goals as goal

pub loop-place-init : goal.loop-place-init
loop-place-init c =
    let are = c.in_ok-table.ensures.items_if_clones_equal (λ y same. same) in
    record {
      filled = IsFilled-none c.args.order.now c.in_ok-table.table.items (zeros-everywhere c.in_ok-table.table.items c.args.items are);
      whole = ap length are ∙ length-replicate c.args.items 0;
    }

pub overflow_cast-place : goal.overflow_cast-place
overflow_cast-place c =
    let few : length c.args.order.now ≤ c.args.items = length-le_from_items c.args.order.now c.args.items c.requires.different c.requires.within in
    omega arith

pub overflow_add-place : goal.overflow_add-place
overflow_add-place c =
    let few : length c.args.order.now ≤ c.args.items = length-le_from_items c.args.order.now c.args.items c.requires.different c.requires.within in
    omega arith

pub loop-place-preserved : goal.loop-place-preserved
loop-place-preserved c =
    let within = c.requires.within c.loop-place.place (item_at 0) c.loop-place-test.true in
    let item : Item = get_or c.args.order.now c.loop-place.place (item_at 0) in
    record {
      filled = IsFilled-more c.args.order.now c.loop-place.place c.loop-place.table.items item c.loop-place.invariant.filled c.loop-place-test.true
          (get_or_default c.args.order.now c.loop-place.place (item_at 0) item c.loop-place-test.true) (omega (arith, within, c.loop-place.invariant.whole));
      whole = length-set c.loop-place.table.items _ _ ∙ c.loop-place.invariant.whole;
    }

pub returns-clause-table : goal.returns-clause-table
returns-clause-table c =
    let all : c.loop-place.place ≡ length c.args.order.now = omega arith in
    IsFilled-all c.args.order.now c.loop-place.table.items (subst (λ k. IsFilled c.args.order.now k c.loop-place.table.items) all c.loop-place.invariant.filled)
