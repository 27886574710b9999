use Rattle.mask_sums.specs.Sets.{together}
use Rattle.mask_sums.proofs.NextLemmas.{AreFound}
use Rattle.mask_sums.proofs.reaching.reaching.Given as goal

abbrev pub invariant-loop-rank : goal.invariant-loop-rank
invariant-loop-rank l = AreFound l.least l.longer (together l.masked 0 l.sums) l.rank l.end l.found.items
