use Rattle.std.proofs.Common.{◌≤◌, length, ap, arith}
use Rattle.snapshot_project.proofs.PartLemmas.{rising-few}
use Rattle.dfs_growth.proofs.seeds.weight.Goals as goal

pub overflow_add-sum : goal.overflow_add-sum
overflow_add-sum c =
    let few : length c.args.numbers.now ≤ length c.args.job.now.sequences = rising-few c.args.numbers.now (length c.args.job.now.sequences) c.requires.rising c.requires.within in
    omega (arith, few, c.loop-number-test.true, c.loop-number.invariant.most, c.weight-sum.ensures.most, c.sequences-count.ensures.count, c.sequences-count.ensures.most, ap length c.db-db.ensures.sequences)
