use Rattle.std.proofs.Common.{◌↔◌, subst}
use Rattle.mine_model.specs.Hierarchy.{IsAncestor}
use Rattle.made_input.proofs.MakingLemmas.{made-within}
use Rattle.made_input.proofs.making.made_hierarchy.Goals as goal

pub close-requires-clause-within : goal.close-requires-clause-within
close-requires-clause-within c = made-within c.in_ok-all_links.field-0.items c.in_ok-all_links.ensures

pub returns-in-Ok-clause-above : goal.returns-in-Ok-clause-above
returns-in-Ok-clause-above c = λ w t. subst (λ links. IsAncestor c.in-Ok.hierarchy.links w t ↔ IsAncestor links w t)
    c.in_ok-all_links.ensures (c.in-Ok.ensures.closed.ancestors w t)
