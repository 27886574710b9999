use Rattle.std.proofs.Common.{◌≡◌, ◌⊎◌, ap, ◌∙◌, subst, inr, IsTrue}
use Rattle.std.specs.List.{All, Contains, slice_range}
use Rattle.std.specs.Result.{IfOk, OnOk}
use Rattle.std.proofs.lemmas.List.{get_or_default}
use Rattle.mine_model.specs.declared.item.Item.{Item}
use Rattle.item_hierarchy.specs.Gathering.{part_at, list_in}
use Rattle.std.proofs.lemmas.Result.{IfOk-weaker}
use Rattle.item_hierarchy.proofs.ancestors.Ancestors.gather_parent.Goals as goal
use Rattle.item_hierarchy.proofs.ancestors.Ancestors.gather_parent.Goals.{After-gather}

the_list : (c : After-gather) → slice_range c.deref.result.now c.index-part.result.now.from c.index-part.result.now.to
    ≡ list_in c.args.self.now.parts.items c.args.self.now.lists.items c.args.parent.0
the_list c =
    let part : c.index-part.result.now ≡ part_at c.args.self.now.parts.items c.args.parent.0 =
    c.index-part.ensures ∙ get_or_default c.args.self.now.parts.items c.args.parent.0 c.index-part.result.now (record { from = 0; to = 0 }) c.requires.inside in
    ap (λ p. slice_range c.deref.result.now p.from p.to) part
    ∙ ap (λ lists. slice_range lists (part_at c.args.self.now.parts.items c.args.parent.0).from (part_at c.args.self.now.parts.items c.args.parent.0).to) c.deref.ensures.value

pub returns-clause-from : goal.returns-clause-from
returns-clause-from c =
    subst (λ list. OnOk c.gather.result ((w : Item) → Contains c.gather.new.gathered.items w → Contains c.args.self.now.gathered.items w ⊎ Contains list w))
    (the_list c) c.gather.ensures.from

pub returns-clause-all : goal.returns-clause-all
returns-clause-all c =
    subst (λ list. IfOk c.gather.result (λ fits. IsTrue fits → Contains c.args.self.now.gathered.items c.args.parent ⊎ All (λ w. Contains c.gather.new.gathered.items w) list))
    (the_list c) (IfOk-weaker c.gather.result _ _ (λ fits all on. inr (all on)) c.gather.ensures.all)
