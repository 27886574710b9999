use Rattle.std.proofs.Common.{◌≡◌, ◌+◌, ◌-◌, ◌++◌, map}
use Rattle.std.specs.List.{range_with_len}
use Rattle.mine_model.specs.Ancestry.{item_at}
use Rattle.item_hierarchy.specs.Edges.{links_of}
use Rattle.made_input.specs.Made.{link, class_links}
use Rattle.made_input.proofs.links.push_classes.Given as goal

abbrev pub invariant-loop-class : goal.invariant-loop-class
invariant-loop-class l = links_of l.rows.items ++ map (λ j. link item_at (100 + j) 110) (range_with_len l.class (10 - l.class))
    ≡ links_of l.fn.rows.items ++ class_links item_at
