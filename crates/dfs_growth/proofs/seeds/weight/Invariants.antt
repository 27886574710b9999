use Rattle.std.proofs.Common.{◌≡◌, ◌*◌, ◌≤◌, take, sum_by}
use Rattle.mine_model.specs.Database.{sequence_at}
use Rattle.mine_model.specs.Limits.{most_weight}
use Rattle.dfs_growth.proofs.seeds.weight.Given as goal

abbrev pub invariant-loop-number : goal.invariant-loop-number
invariant-loop-number l = record {
  sum : l.sum ≡ sum_by (λ i. (sequence_at l.job.sequences i).weight) (take l.number-index l.numbers);
  most : l.sum ≤ l.number-index * most_weight;
}
