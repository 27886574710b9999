use Rattle.prefix_counts.proofs.JoinLemmas.{AreJoinedSoFar}
use Rattle.prefix_counts.proofs.joining.join_all.Given as goal

abbrev pub invariant-loop-number : goal.invariant-loop-number
invariant-loop-number l = AreJoinedSoFar l.fn.counts l.other l.counts l.numbers.items l.number
