use Rattle.std.proofs.Common.{◌≡◌, ◌++◌, map, take, length}
use Rattle.std.specs.Vec.Iter.{into_iter_items, into_iter_len}
use Rattle.snapshot_project.specs.declared.next_rank.NextRank.{NextRank}
use Rattle.dfs_growth.specs.Nodes.{prefix_at, longer_by}
use Rattle.dfs_growth.proofs.growing.nodes.Given as goal

abbrev pub invariant-kids : goal.invariant-kids
invariant-kids l = record {
  seen : l.yielded ++ into_iter_items l.snapshots-iterator ≡ l.fn.longer.items;
  count : into_iter_len l.snapshots-iterator ≡ length (into_iter_items l.snapshots-iterator);
  kids : l.kids.items ≡ map (λ (n : NextRank). longer_by (prefix_at l.job l.label) n.rank) (take (length l.yielded) l.next);
}
