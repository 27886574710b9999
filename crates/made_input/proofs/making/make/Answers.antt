use Rattle.std.proofs.Common.{ap, sym, ◌∙◌, map, subst}
use Rattle.std.specs.List.{AllByRecursion}
use Rattle.mine_model.specs.declared.item.Item.{Item}
use Rattle.mine_model.specs.Support.{Sequence}
use Rattle.mine_model.specs.Names.{name_of, sequence_by, HasName}
use Rattle.made_input.specs.Made.{made_names}
use Rattle.made_input.proofs.NameLemmas.{named_too}
use Rattle.made_input.proofs.MakingLemmas.{above-named, sequences-named}
use Rattle.made_input.proofs.making.make.Goals as goal

pub returns-clause-above : goal.returns-clause-above
returns-clause-above c = λ w t p q.
    let own = c.in_ok-hierarchy.ensures.above w t in
    let named = above-named w t p q in
    ((λ up. named.0 (own.0 up)), (λ up. own.1 (named.1 up)))

pub returns-clause-sequences : goal.returns-clause-sequences
returns-clause-sequences c = ap (map (sequence_by (name_of made_names))) c.in_ok-db.ensures ∙ named_too c.args.count

pub returns-clause-named : goal.returns-clause-named
returns-clause-named c = subst (AllByRecursion (λ (s : Sequence Item). AllByRecursion (HasName made_names) s.items))
    (sym c.in_ok-db.ensures) (sequences-named c.args.count)
