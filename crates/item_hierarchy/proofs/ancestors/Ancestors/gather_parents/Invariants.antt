use Rattle.std.proofs.Common.{◌≡◌, ℕ, ◌+◌, ◌≤◌, ◌<◌, ◌⊎◌, length, get_or}
use Rattle.std.specs.List.{Contains, slice_index}
use Rattle.item_hierarchy.specs.declared.edges.EdgeRow.{EdgeRow}
use Rattle.item_hierarchy.specs.Edges.{links_of}
use Rattle.item_hierarchy.specs.Gathering.{AreStamped, HoldsAncestors}
use Rattle.item_hierarchy.proofs.ancestors.Ancestors.gather_parents.Given as goal

abbrev pub invariant-loop-at : goal.invariant-loop-at
invariant-loop-at l = record {
  stamped : AreStamped (l.fn.t.0 + 1) l.self.seen.items l.self.gathered.items;
  holds : HoldsAncestors (links_of l.rows) l.fn.t l.self.gathered.items;
  room : length l.self.gathered.items ≤ l.room;
  done : (k : ℕ) (d : EdgeRow) → get_or l.starts l.fn.t.0 0 ≤ k → k < l.at → Contains l.self.gathered.items (get_or l.rows k d).parent;
  size : length l.self.seen.items ≡ length l.fn.self.seen.items;
  seen : (n : ℕ) → (slice_index l.self.seen.items n ≡ l.fn.t.0 + 1) ⊎ (slice_index l.self.seen.items n ≡ slice_index l.fn.self.seen.items n);
  parts : l.self.parts ≡ l.fn.self.parts;
  lists : l.self.lists ≡ l.fn.self.lists;
}
