use Rattle.std.proofs.Common.{◌∙◌, ℕ, List, length, ap, arith, slice_get, slice_index}
use Rattle.std.proofs.lemmas.Option.{slice_get_within}
use Rattle.mine_model.proofs.ElementLemmas.{get-some}
use Rattle.prefix_counts.proofs.JoinLemmas.{joined-none, next-room, joined-next, joined-all}
use Rattle.prefix_counts.proofs.joining.join_all.Goals as goal

pub loop-number-init : goal.loop-number-init
loop-number-init c = joined-none c.args.counts.now c.args.other.now c.len-count.ensures.prefixes c.len-held.ensures.prefixes c.in_ok-numbers.numbers.items c.in_ok-numbers.ensures

pub join_next-requires-clause-within : goal.join_next-requires-clause-within
join_next-requires-clause-within c = omega (arith, c.loop-number-test.true, c.len-count.ensures.count)

pub join_next-requires-clause-long : goal.join_next-requires-clause-long
join_next-requires-clause-long c = ap length c.as_slice.ensures.value ∙ c.loop-number.invariant.long

pub join_next-requires-clause-held : goal.join_next-requires-clause-held
join_next-requires-clause-held c = λ k below.
    ap (λ (ns : List ℕ). slice_get c.loop-number.counts.lists (slice_index ns k)) c.as_slice.ensures.value ∙ c.loop-number.invariant.numbered k below

pub join_next-requires-clause-room : goal.join_next-requires-clause-room
join_next-requires-clause-room c =
    next-room c.args.counts.now c.args.other.now c.len-count.ensures.prefixes c.loop-number.counts c.loop-number.numbers.items c.loop-number.number c.loop-number.invariant c.requires

pub loop-number-preserved : goal.loop-number-preserved
loop-number-preserved c =
    let theirs = c.args.other.now in
    let number = c.loop-number.number in
    let (list, at) = get-some theirs.lists number (omega (arith, c.loop-number-test.true, c.len-count.ensures.count)) in
    joined-next c.args.counts.now theirs c.len-count.ensures.prefixes c.loop-number.counts c.join_next.new.counts c.loop-number.numbers.items c.push.new.self.items number c.in_ok-place.place list
    c.loop-number.invariant at (c.in_ok-place.ensures list at) c.in_ok-push.ensures.items

pub returns : goal.returns
returns c =
    let some = slice_get_within c.args.other.now.lists 0 _ c.len-count.ensures.prefixes.first in
    joined-all c.args.counts.now c.args.other.now c.len-count.ensures.prefixes c.loop-number.counts c.loop-number.numbers.items c.loop-number.number c.loop-number.invariant
    (omega (arith, c.loop-number-test.false, c.loop-number.auto.number-end, c.len-count.ensures.count, some))
