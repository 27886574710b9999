use Rattle.std.proofs.Common.{◌≡◌, length, subst, arith}
use Rattle.frequency_list.proofs.OrderLemmas.{AreFrequentBelow, frequent-more, frequent-skip, rises-more}
use Rattle.frequency_list.proofs.ranking.frequent.Goals as goal
use Rattle.frequency_list.proofs.ranking.frequent.Goals.{then-frequency-threshold+in_ok-push, else-frequency-threshold}

pub loop-number-preserved : goal.loop-number-preserved
loop-number-preserved c = elim c.if-frequency-threshold.branch [
  | then-frequency-threshold+in_ok-push w ↦ rw (w.items-is, w.in_ok-push.ensures.items) (record {
    exact = frequent-more c.args.threshold c.args.frequencies.now c.loop-number.number c.loop-number.items.items c.loop-number.invariant.exact w.if-frequency-threshold.true;
    rises = rises-more c.args.threshold c.args.frequencies.now c.loop-number.number c.loop-number.items.items c.loop-number.invariant.exact c.loop-number.invariant.rises;
  })
  | else-frequency-threshold w ↦ rw w.items-is (record {
    exact = frequent-skip c.args.threshold c.args.frequencies.now c.loop-number.number c.loop-number.items.items c.loop-number.invariant.exact w.if-frequency-threshold.false;
    rises = c.loop-number.invariant.rises;
  })
]

pub returns-clause-exact : goal.returns-clause-exact
returns-clause-exact c =
    let all : c.loop-number.number ≡ length c.args.frequencies.now = omega arith in
    subst (λ n. AreFrequentBelow n c.args.threshold c.args.frequencies.now c.loop-number.items.items) all c.loop-number.invariant.exact
