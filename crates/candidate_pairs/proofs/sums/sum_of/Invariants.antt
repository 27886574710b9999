use Rattle.std.proofs.Common.{◌≡◌, take, sum_by}
use Rattle.mine_model.specs.Counted.{told_of}
use Rattle.candidate_pairs.specs.Sums.{told_behind}
use Rattle.candidate_pairs.proofs.sums.sum_of.Given as goal

-- what is told of the edges so far
abbrev pub invariant-loop-edge : goal.invariant-loop-edge
invariant-loop-edge l = l.sum ≡ told_of (sum_by (told_behind l.sums) (take l.edge-index l.edges))
