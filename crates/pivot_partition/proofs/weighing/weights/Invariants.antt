use Rattle.std.proofs.Common.{◌≡◌, ◌+◌, length, take}
use Rattle.pivot_partition.specs.Pairs.{AreWeights, all_of}
use Rattle.pivot_partition.proofs.weighing.weights.Given as goal

abbrev pub invariant-loop-part : goal.invariant-loop-part
invariant-loop-part l = record {
  long : length l.sums.items ≡ length l.job.ranking.order + 1;
  weights : AreWeights l.job (all_of (take l.part-index l.parts)) l.sums.items;
}
