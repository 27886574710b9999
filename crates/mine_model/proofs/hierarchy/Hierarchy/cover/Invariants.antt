use Rattle.std.proofs.Common.{◌≡◌, ◌≤◌, length, ◌+◌, ◌-◌, vec_len}
use Rattle.std.specs.Vec.{vec_capacity}
use Rattle.mine_model.specs.Limits.{most_ancestors}
use Rattle.mine_model.specs.Ancestry.{AreAncestorLists, links_from_number}
use Rattle.mine_model.proofs.hierarchy.Hierarchy.cover.Given as goal

abbrev pub invariant-loop-number : goal.invariant-loop-number
invariant-loop-number l = record {
  are : AreAncestorLists l.self-inside.ends.items l.self-inside.lists.items;
  items : length l.self-inside.ends.items ≡ l.number;
  links : links_from_number 0 0 l.self-inside.ends.items l.self-inside.lists.items ≡ l.fn.self.links;
  few : length l.self-inside.lists.items ≤ most_ancestors + l.number;
  room_in_ends : vec_len l.self-inside.ends + (l.items - l.number) ≤ vec_capacity l.self-inside.ends;
  room_in_lists : vec_len l.self-inside.lists + (l.items - l.number) ≤ vec_capacity l.self-inside.lists;
}
