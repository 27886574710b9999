use Rattle.std.proofs.Common.{◌≡◌, ◌<◌, ℕ, length, get_or, sym, arith}
use Rattle.std.specs.Int.{bit_at}
use Rattle.member_counts.proofs.CountLemmas.{sets_with-none, sets_with-next, sets_with-take_le, has_bit, lacks_bit}
use Rattle.member_counts.proofs.counts.waiting_count.Goals.{then-has, else-has}
use Rattle.member_counts.proofs.counts.waiting_count.Goals as goal

pub loop-index-init : goal.loop-index-init
loop-index-init g c = sym (sets_with-none c.args.sets.now c.args.member)

pub overflow_add-count : goal.overflow_add-count
overflow_add-count g c = omega (arith, c.loop-index.invariant, sets_with-take_le c.args.sets.now c.loop-index.index c.args.member)

pub loop-index-preserved : goal.loop-index-preserved
loop-index-preserved g c =
    let set : ℕ = get_or c.args.sets.now c.loop-index.index c.index-sets-index.result in
    let room : c.loop-index.index < length c.args.sets.now = omega arith in
    let next = sets_with-next c.args.sets.now c.loop-index.index c.index-sets-index.result c.args.member room in
    elim c.if-has.branch [
      | then-has w ↦
          let one = has_bit set c.args.member (c.has.ensures.0 w.if-has.true) in
          let is = w.count-is in omega (arith, next, one, is, c.loop-index.invariant)
      | else-has w ↦
          let false_is = w.if-has.false in
          let none : bit_at set c.args.member ≡ 0 = lacks_bit set c.args.member (λ has. let true_is = c.has.ensures.1 has in absurd (cc)) in
          let is = w.count-is in omega (arith, next, none, is, c.loop-index.invariant)
    ]
