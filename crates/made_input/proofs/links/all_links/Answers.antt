use Rattle.std.proofs.Common.{ap}
use Rattle.item_hierarchy.specs.Edges.{links_of}
use Rattle.made_input.proofs.MakingLemmas.{all-links}
use Rattle.made_input.proofs.links.all_links.Goals as goal

pub returns : goal.returns
returns c = all-links (links_of c.new-rows.result.items) (links_of c.push_words.new.rows.items) (links_of c.push_classes.new.rows.items)
    (ap links_of c.new-rows.ensures.items) c.in_ok-push_words.ensures c.in_ok-push_classes.ensures
