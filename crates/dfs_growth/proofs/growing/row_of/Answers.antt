use Rattle.std.proofs.Common.{◌<◌, ◌≤◌, subst, arith}
use Rattle.mine_model.specs.Ranks.{AreRanked}
use Rattle.dfs_growth.specs.Nodes.{prefix_at}
use Rattle.dfs_growth.proofs.NodeLemmas.{ranks-at, part-at, ranks-bounded}
use Rattle.dfs_growth.proofs.RowLemmas.{row-few, row-enough}
use Rattle.dfs_growth.proofs.growing.row_of.Goals as goal

pub returns-then-support-threshold : goal.returns-then-support-threshold
returns-then-support-threshold c =
    let job = c.args.job.now in
    let label = c.args.label.now in
    let prefix = prefix_at job label in
    let is = c.requires.projection in
    let few : c.support-support.result < job.threshold = omega (arith, c.if-support-threshold.true, c.threshold.ensures.threshold) in
    row-few job prefix.pivot c.args.part.now (part-at job label c.args.part.now c.args.snapshots.now is) prefix.ranks c.support-support.result
    (c.support-support.ensures prefix.problem.threshold prefix.ranks is.projected) few

pub pattern_of-requires : goal.pattern_of-requires
pattern_of-requires c =
    rw c.ranks.ensures.ranking
    (ranks-bounded c.args.job.now c.args.label.now c.args.part.now c.args.snapshots.now c.requires.projection c.requires.some)

pub returns : goal.returns
returns c =
    let job = c.args.job.now in
    let label = c.args.label.now in
    let prefix = prefix_at job label in
    let is = c.requires.projection in
    let enough : job.threshold ≤ c.support-support.result = omega (arith, c.if-support-threshold.false, c.threshold.ensures.threshold) in
    let listed = rw c.ranks.ensures.ranking at c.in_ok-pattern.ensures in
    let ranked : AreRanked job.ranking.order c.in_ok-pattern.pattern prefix.ranks = subst (AreRanked job.ranking.order c.in_ok-pattern.pattern) (ranks-at job label c.requires.some) listed in
    row-enough job prefix.pivot c.args.part.now (part-at job label c.args.part.now c.args.snapshots.now is) c.threshold.ensures.whole.least prefix.ranks c.in_ok-pattern.pattern c.support-support.result
    ranked (c.support-support.ensures prefix.problem.threshold prefix.ranks is.projected) enough
