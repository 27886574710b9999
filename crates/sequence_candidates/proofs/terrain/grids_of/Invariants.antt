use Rattle.std.proofs.Common.{◌≡◌, take}
use Rattle.sequence_candidates.proofs.terrain.grids_of.Given as goal

abbrev pub invariant-loop-number : goal.invariant-loop-number
invariant-loop-number l = l.grids ≡ record { problem = l.job; bound = l.fn.bound; sequences = take l.number-index l.sequences }
