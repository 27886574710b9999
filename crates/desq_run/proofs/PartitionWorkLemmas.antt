-- The work of a search by pivots by ranks is that by items, of a problem.
use Rattle.std.proofs.Common.{ℕ, ◌<◌, List}
use Rattle.std.specs.List.{All}
use Rattle.mine_model.specs.declared.item.Item.{Item}
use Rattle.mine_model.specs.declared.mined.Work.{Work}
use Rattle.mine_model.specs.Hierarchy.{Link}
use Rattle.mine_model.specs.Ranks.{AreTiesByName}
use Rattle.mine_model.specs.PartitionWork.{IsPartitionWork, IsNamedBefore}
use Rattle.search_tree.specs.RankedPartition.{IsRankedPartitionWork}
use Rattle.search_tree.proofs.PartitionRankLemmas.{order-within, partition-items}
use Rattle.mining_job.specs.Problems.{Problem, data_of, IsWhole}

-- the work of a problem whose links are between its items
pub problem-work : (problem : Problem) → IsWhole problem
    → All (λ (link : Link Item). (link.child.0 < problem.hierarchy.items) × (link.parent.0 < problem.hierarchy.items)) problem.hierarchy.links
    → (names : List (List ℕ)) → AreTiesByName names problem.ranking → (work : Work) → IsRankedPartitionWork (data_of problem) problem.ranking.order work
    → IsPartitionWork (IsNamedBefore names) (data_of problem) work
problem-work problem whole ends names ties work is =
    let within = order-within (data_of problem) problem.ranking whole.ranks whole.least problem.hierarchy.items ends whole.items whole.ranked in
    partition-items names (data_of problem) problem.ranking whole.ranks ties within whole.least work is
