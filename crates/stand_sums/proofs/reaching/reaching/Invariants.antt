use Rattle.std.proofs.Common.{◌≡◌, take}
use Rattle.stand_sums.proofs.ReachLemmas.{found_of}
use Rattle.stand_sums.proofs.reaching.reaching.Given as goal

abbrev pub invariant-loop-rank : goal.invariant-loop-rank
invariant-loop-rank l = l.found.items ≡ found_of l.least l.longer l.sums (take l.rank-index l.touched)
