use Rattle.std.proofs.Common.{◌<◌, length, arith}
use Rattle.member_counts.specs.Digits.{bit_in}
use Rattle.member_counts.proofs.CountLemmas.{carried_on}
use Rattle.member_counts.proofs.counts.carry_row.Goals as goal

pub returns-in_err-carry : goal.returns-in_err-carry
returns-in_err-carry g c q =
    let inside : c.loop-digit.digit-index < length c.loop-digit.digits = omega arith in
    let more = carried_on c.loop-digit.digits c.loop-digit.digit-index c.add.new.self c.digit-item.result q (bit_in c.loop-digit.carry q) 0 _ inside (c.loop-digit.invariant q) (c.in_err-carry.ensures q) in
    rw c.from_residual.ensures (omega (arith, more))

pub loop-digit-preserved : goal.loop-digit-preserved
loop-digit-preserved g c q =
    let inside : c.loop-digit.digit-index < length c.loop-digit.digits = omega arith in
    carried_on c.loop-digit.digits c.loop-digit.digit-index c.add.new.self c.digit-item.result q (bit_in c.loop-digit.carry q) (bit_in c.in_ok-carry.carry q) _ inside (c.loop-digit.invariant q) (c.in_ok-carry.ensures q)
