use Rattle.std.proofs.Common.{◌≤◌, length, arith}
use Rattle.mine_model.proofs.AncestryLemmas.{items_le_lists, listed_from_walk, walk_from_listed, links_within}
use Rattle.mine_model.proofs.hierarchy.Hierarchy.new.Goals as goal

pub invariant_of-result : goal.invariant_of-result
invariant_of-result c =
    let few : length c.args.ends.items ≤ length c.args.lists.items = items_le_lists c.args.ends.items c.args.lists.items c.requires.lists in
    (c.requires.lists, omega (arith, few, c.requires.few), omega (arith, few, c.requires.few))

pub returns-clause-ancestors : goal.returns-clause-ancestors
returns-clause-ancestors c t w within = (
  λ up. listed_from_walk c.args.ends.items c.args.lists.items c.requires.lists t up.0 w within up.1,
  λ listed. walk_from_listed c.args.ends.items c.args.lists.items c.requires.lists t w listed,
)

pub returns-clause-within : goal.returns-clause-within
returns-clause-within c = links_within c.args.ends.items c.args.lists.items c.requires.lists
