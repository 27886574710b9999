use Rattle.std.proofs.Common.{◌≡◌, length, ap, arith}
use Rattle.mine_model.specs.Ranks.{Ranking}
use Rattle.dfs_growth.proofs.RootLemmas.{none-without}
use Rattle.dfs_growth.proofs.seeds.whole_roots_alone.Goals as goal

pub returns-then-count-eq0-clause-roots : goal.returns-then-count-eq0-clause-roots
returns-then-count-eq0-clause-roots c =
    let none : length c.args.job.now.ranking.order ≡ 0 = omega (arith, c.count.ensures.count, ap (λ (r : Ranking). length r.order) c.ranks.ensures.ranking, c.if-count-eq0.true) in
    rw c.new.ensures.items (none-without c.args.job.now c.ranks.ensures.whole c.new.result none)
