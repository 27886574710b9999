use Rattle.std.proofs.Common.{◌+◌, ◌*◌, ◌/◌, ◌≤◌, length, ap, subst, sym, arith}
use Rattle.mine_model.specs.Ranks.{Ranking}
use Rattle.pivot_partition.specs.Pairs.{ArePairs, all_of}
use Rattle.pivot_partition.proofs.PairLemmas.{pieces-all, pieces-reach}
use Rattle.pivot_partition.proofs.SeedLemmas.{no-seeds}
use Rattle.pivot_partition.proofs.splitting.split.Goals as goal

pub seeds_of-requires : goal.seeds_of-requires
seeds_of-requires g c =
    let reach : length c.args.job.now.sequences ≤ c.args.threads * (c.sequences.result / c.args.threads + 1) =
    omega (arith, pieces-reach c.sequences.result c.args.threads c.requires.least, c.sequences.ensures.count, ap length c.db.ensures.sequences) in
    subst (λ l. ArePairs c.args.job.now 0 (length c.args.job.now.sequences) (all_of l)) (sym c.as_slice.ensures.value)
    (pieces-all c.args.job.now (c.sequences.result / c.args.threads + 1) c.args.threads c.in_ok-parts.parts.items reach c.in_ok-parts.ensures)

pub returns-then-count-eq0-clause-alive : goal.returns-then-count-eq0-clause-alive
returns-then-count-eq0-clause-alive g c =
    no-seeds c.args.job.now c.ranks.ensures.whole.least
    (omega (arith, c.count.ensures.count, ap (λ (r : Ranking). length r.order) c.ranks.ensures.ranking, c.if-count-eq0.true))
    c.new.result.items c.new.ensures.items
