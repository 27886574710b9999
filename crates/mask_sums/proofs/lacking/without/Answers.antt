use Rattle.mask_sums.proofs.LackLemmas.{others-none, others-more}
use Rattle.mask_sums.proofs.lacking.without.Goals as goal

pub loop-member-init : goal.loop-member-init
loop-member-init c =
    rw (c.into_iter-member-iterator.ensures.into_iter_gives)
    (others-none c.args.set.now c.args.rank c.new-found.result c.iter-member-items.result c.new-found.ensures c.iter-member-items.ensures.members)

pub loop-member-preserved-then-member-rank : goal.loop-member-preserved-then-member-rank
loop-member-preserved-then-member-rank c =
    others-more c.args.set.now c.args.rank c.loop-member.found c.add.new.self c.loop-member.yielded c.loop-member.member-iterator c.next.new.self c.in-Some.member
    c.loop-member.invariant c.in-Some.ensures.steps c.if-member-rank.true c.add.ensures
