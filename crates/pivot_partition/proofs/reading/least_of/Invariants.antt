use Rattle.std.proofs.Common.{take}
use Rattle.pivot_partition.specs.Tops.{IsLeastOf}
use Rattle.pivot_partition.proofs.reading.least_of.Given as goal

abbrev pub invariant-loop-rank : goal.invariant-loop-rank
invariant-loop-rank l = IsLeastOf (take l.rank-index l.ranks) l.least
