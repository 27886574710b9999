use Rattle.std.proofs.Common.{Some, arith}
use Rattle.member_counts.proofs.CountLemmas.{count_in-three}
use Rattle.member_counts.proofs.low.Low.with.Goals as goal

pub returns : goal.returns
returns g c q inside =
    let low = c.args.self.now in
    let waiting = c.added-waiting.result in
    let three = count_in-three {W = g.row.W} (record { bits = low.ones; waiting = Some waiting.ones }) (record { bits = low.twos; waiting = Some waiting.twos })
    (record { bits = low.fours; waiting = Some waiting.fours }) q in
    omega (arith, c.added-waiting.ensures q inside, three)
