use Rattle.mask_sums.proofs.LackLemmas.{AreOthersSoFar}
use Rattle.mask_sums.proofs.lacking.without.Given as goal

abbrev pub invariant-loop-member : goal.invariant-loop-member
invariant-loop-member l = AreOthersSoFar l.set l.rank l.found l.yielded l.member-iterator
