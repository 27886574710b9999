use Rattle.std.proofs.Common.{None, [], ◌≡◌, ◌-◌, ◌<◌, ◌≤◌, get_or, length, arith, sym}
use Rattle.std.proofs.lemmas.List.{drop_all}
use Rattle.member_counts.specs.declared.digits.Digits.{Digits}
use Rattle.member_counts.specs.Digits.{digit}
use Rattle.member_counts.proofs.CountLemmas.{count_in-drop_le, count_in-empty, counted_on}
use Rattle.member_counts.proofs.counts.digits_count.Goals as goal

pub loop-index-init : goal.loop-index-init
loop-index-init g c = rw (drop_all (length c.args.digits.now) c.args.digits.now (omega arith)) (sym (count_in-empty g.row.W c.args.member))

pub overflow_mul-count : goal.overflow_mul-count
overflow_mul-count g c =
    let some : 0 < c.loop-index.index = omega arith in
    let within : c.loop-index.index ≤ length c.args.digits.now = omega arith in
    let below = count_in-drop_le c.args.digits.now (c.loop-index.index - 1) c.args.member in
    let empty : Digits g.row.W = record { bits = []; waiting = None } in
    omega (arith, below, c.requires.fits, c.loop-index.invariant, counted_on c.args.digits.now c.loop-index.index empty c.args.member some within)

pub overflow_add-count : goal.overflow_add-count
overflow_add-count g c =
    let some : 0 < c.loop-index.index = omega arith in
    let within : c.loop-index.index ≤ length c.args.digits.now = omega arith in
    let below = count_in-drop_le c.args.digits.now (c.loop-index.index - 1) c.args.member in
    let here : c.digit.result ≡ digit (get_or c.args.digits.now (c.loop-index.index - 1) c.index-digits-index.result) c.args.member = cc in
    omega (arith, here, below, c.requires.fits, c.loop-index.invariant, counted_on c.args.digits.now c.loop-index.index c.index-digits-index.result c.args.member some within)

pub loop-index-preserved : goal.loop-index-preserved
loop-index-preserved g c =
    let some : 0 < c.loop-index.index = omega arith in
    let within : c.loop-index.index ≤ length c.args.digits.now = omega arith in
    let here : c.digit.result ≡ digit (get_or c.args.digits.now (c.loop-index.index - 1) c.index-digits-index.result) c.args.member = cc in
    omega (arith, here, c.loop-index.invariant, counted_on c.args.digits.now c.loop-index.index c.index-digits-index.result c.args.member some within)
