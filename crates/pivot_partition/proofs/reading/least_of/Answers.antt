use Rattle.std.proofs.Common.{refl, ℕ, get_or}
use Rattle.pivot_partition.proofs.LeastLemmas.{least-more, least-all}
use Rattle.pivot_partition.proofs.reading.least_of.Goals as goal

pub loop-rank-preserved : goal.loop-rank-preserved
loop-rank-preserved c =
    least-more (λ (r : ℕ). r) c.args.ranks.now c.loop-rank.rank-index c.loop-rank.least c.min-least.result (get_or c.args.ranks.now c.loop-rank.rank-index 0) 0 c.loop-rank-test.true refl c.min-least.ensures c.loop-rank.invariant

pub returns : goal.returns
returns c = least-all (λ (r : ℕ). r) c.args.ranks.now c.loop-rank.rank-index c.loop-rank.least c.loop-rank-test.false c.loop-rank.invariant
