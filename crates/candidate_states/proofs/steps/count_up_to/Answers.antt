use Rattle.std.proofs.Common.{leb, rules}
use Rattle.std.proofs.lemmas.List.Sorted.{IsPartitionPoint-from_clause, IsPartitionedBy-leb}
use Rattle.candidate_states.proofs.StageLemmas.{rising-most, point-exact}
use Rattle.candidate_states.proofs.steps.count_up_to.Goals as goal

pub returns-clause-exact : goal.returns-clause-exact
returns-clause-exact c =
    let parted = IsPartitionedBy-leb (λ step. step.rank) c.args.steps.now c.args.pivot (rising-most c.args.steps.now c.requires) in
    point-exact c.args.steps.now c.args.pivot c.partition_point.result
    (IsPartitionPoint-from_clause (λ step. leb step.rank c.args.pivot) _ _ c.partition_point.ensures.partitioned parted (λ a r q k. search rules))
