use Rattle.std.proofs.Common.{◌-◌, ◌+◌, ◌++◌, map, ap, sym, ◌∙◌}
use Rattle.std.specs.List.{range_with_len}
use Rattle.mine_model.specs.Ancestry.{item_at}
use Rattle.item_hierarchy.specs.Edges.{links_of}
use Rattle.made_input.specs.Made.{link}
use Rattle.made_input.proofs.MakingLemmas.{class-next, classes-done}
use Rattle.made_input.proofs.links.push_classes.Goals as goal

pub loop-class-preserved : goal.loop-class-preserved
loop-class-preserved c =
    ap (λ l. l ++ map (λ j. link item_at (100 + j) 110) (range_with_len (c.loop-class.class + 1) (10 - (c.loop-class.class + 1)))) c.in_ok-push_link.ensures
    ∙ class-next c.loop-class.class (links_of c.loop-class.rows.items) c.loop-class-test.true ∙ c.loop-class.invariant

pub returns : goal.returns
returns c = sym (classes-done c.loop-class.class (links_of c.loop-class.rows.items) c.loop-class-test.false) ∙ c.loop-class.invariant
