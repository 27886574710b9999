use Rattle.std.proofs.Common.{◌≡◌, All}
use Rattle.dfs_growth.specs.Nodes.{Prefix}
use Rattle.dfs_growth.specs.Projections.{IsRoomFor}
use Rattle.layer_tests.proofs.growing.follow_all.Given as goal

abbrev pub invariant-loop-place : goal.invariant-loop-place
invariant-loop-place l = record {
  problem : All (λ (node : Prefix). node.problem ≡ l.job) l.nodes.items;
  room : IsRoomFor l.job l.room;
}
