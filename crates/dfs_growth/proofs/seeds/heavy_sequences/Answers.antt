use Rattle.std.proofs.Common.{sym, subst}
use Rattle.mining_job.specs.Parts.{IsComplete}
use Rattle.dfs_growth.proofs.RootLemmas.{seed-within}
use Rattle.dfs_growth.proofs.seeds.heavy_sequences.Goals as goal

pub weight-requires-clause-within : goal.weight-requires-clause-within
weight-requires-clause-within c =
    let complete = subst (IsComplete c.args.job.now) (sym c.seed-item.is) (c.requires c.seeds.seed-index c.seed-item.result c.seeds-test.true) in
    rw c.as_slice-sequences.ensures.value (seed-within c.args.job.now c.seed-item.result complete)
