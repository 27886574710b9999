use Rattle.std.proofs.Common.{◌≡◌, ◌*◌, ◌^◌, length, arith, ◌∙◌}
use Rattle.std.proofs.lemmas.Nat.{pow-add}
use Rattle.prefix_sieve.proofs.BitLemmas.{flags_in-sums}
use Rattle.prefix_sieve.proofs.level.level_of.Goals as goal

pub invariant_of-result : goal.invariant_of-result
invariant_of-result c =
    let bits = c.requires.0 in
    let whole : length c.args.sums.now ≡ 2 ^ bits * 64 = c.requires.1 ∙ pow-add 2 bits 6 in
    (bits, omega (arith, whole, c.loop-at.invariant.long, c.loop-at.auto.at-end, c.loop-at-test.false))

pub returns : goal.returns
returns c =
    let bits = c.requires.0 in
    let whole : length c.args.sums.now ≡ 2 ^ bits * 64 = c.requires.1 ∙ pow-add 2 bits 6 in
    let long : length c.loop-at.words.items ≡ 2 ^ bits =
    omega (arith, whole, c.loop-at.invariant.long, c.loop-at.auto.at-end, c.loop-at-test.false) in
    flags_in-sums c.loop-at.words.items c.args.threshold c.args.sums.now (omega (arith, whole, long))
    (λ word bit within below. c.loop-at.invariant.done word bit (omega (arith, within, c.loop-at.invariant.long)) below)
