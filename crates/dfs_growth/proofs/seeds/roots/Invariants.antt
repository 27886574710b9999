use Rattle.std.proofs.Common.{◌≡◌, ◌++◌, map, length, All}
use Rattle.std.specs.Vec.Iter.{into_iter_items, into_iter_len}
use Rattle.search_tree.specs.SearchTree.{AreRootsOf}
use Rattle.mining_job.specs.declared.part_seed.PartSeed.{PartSeed}
use Rattle.mining_job.specs.Problems.{data_of}
use Rattle.mining_job.specs.Parts.{pivot_of}
use Rattle.dfs_growth.specs.Nodes.{Prefix, label_at}
use Rattle.dfs_growth.proofs.seeds.roots.Given as goal

abbrev pub invariant-seeds : goal.invariant-seeds
invariant-seeds l = record {
  seen : l.yielded ++ into_iter_items l.seed-iterator ≡ l.fn.seeds.items;
  count : into_iter_len l.seed-iterator ≡ length (into_iter_items l.seed-iterator);
  problem : All (λ (node : Prefix). node.problem ≡ l.job) l.nodes.items;
  roots : AreRootsOf (data_of l.job) l.job.ranking.order (map (λ (seed : PartSeed). pivot_of seed.pivot) l.yielded) (map label_at l.nodes.items);
}
