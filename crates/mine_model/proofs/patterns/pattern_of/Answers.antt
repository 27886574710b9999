use Rattle.std.proofs.Common.{take, get_or}
use Rattle.std.proofs.lemmas.List.{take_more}
use Rattle.mine_model.proofs.RankedLemmas.{ranked-push}
use Rattle.mine_model.proofs.patterns.pattern_of.Goals as goal

pub loop-rank-preserved : goal.loop-rank-preserved
loop-rank-preserved c =
    let list = c.args.list.now in
    let k = c.loop-rank.rank-index in
    rw (take_more list k 0 c.loop-rank-test.true, c.in_ok-push.ensures.items)
    (ranked-push c.args.ranks.now.order c.loop-rank.items.items (take k list) c.item.result (get_or list k 0) c.loop-rank.invariant c.item.ensures.rank)
