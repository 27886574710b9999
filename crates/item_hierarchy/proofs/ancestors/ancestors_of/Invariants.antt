use Rattle.std.proofs.Common.{◌≡◌, ◌≤◌, length, take}
use Rattle.mine_model.specs.Limits.{most_ancestors}
use Rattle.item_hierarchy.specs.Edges.{links_of}
use Rattle.item_hierarchy.specs.Gathering.{AreGathered, AreFor}
use Rattle.item_hierarchy.proofs.ancestors.ancestors_of.Given as goal

abbrev pub invariant-loop-t : goal.invariant-loop-t
invariant-loop-t l = record {
  gathered : AreGathered (links_of l.rows) (take l.t-index l.order) l.ancestors.parts.items l.ancestors.lists.items;
  parts : length l.ancestors.parts.items ≡ l.items;
  seen : length l.ancestors.seen.items ≡ l.items;
  stamps : AreFor (take l.t-index l.order) l.ancestors.seen.items;
  few : length l.ancestors.lists.items ≤ most_ancestors;
}
