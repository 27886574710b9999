use Rattle.std.proofs.Common.{◌≡◌, take}
use Rattle.std.specs.List.{sum}
use Rattle.mine_model.specs.Counted.{told_of}
use Rattle.candidate_pairs.proofs.telling.sum_of_told.Given as goal

-- what is told of the numbers so far
abbrev pub invariant-loop-told : goal.invariant-loop-told
invariant-loop-told l = l.sum ≡ told_of (sum (take l.told-index l.shares))
