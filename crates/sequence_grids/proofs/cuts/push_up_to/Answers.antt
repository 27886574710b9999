use Rattle.std.proofs.Common.{arith}
use Rattle.sequence_grids.proofs.CutLemmas.{AreCutSoFar-done}
use Rattle.sequence_grids.proofs.cuts.push_up_to.Goals as goal

pub returns-then-rank-top-clause-cut : goal.returns-then-rank-top-clause-cut
returns-then-rank-top-clause-cut c =
    let inside = c.loop-rank-test.true in
    let over = c.if-rank-top.true in
    AreCutSoFar-done c.args.ranks.now.items c.args.outputs.now c.args.top c.loop-rank.ranks.items c.loop-rank.rank-index c.requires.rising c.loop-rank.invariant (omega arith) (λ below. over)

pub returns-clause-cut : goal.returns-clause-cut
returns-clause-cut c =
    let end = c.loop-rank.auto.rank-index-end in
    let over = c.loop-rank-test.false in
    AreCutSoFar-done c.args.ranks.now.items c.args.outputs.now c.args.top c.loop-rank.ranks.items c.loop-rank.rank-index c.requires.rising c.loop-rank.invariant (omega arith) (λ below. absurd (omega arith))
