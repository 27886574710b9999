use Rattle.std.proofs.Common.{◌≡◌, ◌-◌, ◌≤◌, length, take}
use Rattle.pattern_writer.proofs.ordering.count_same.Given as goal

abbrev pub invariant-loop-same : goal.invariant-loop-same
invariant-loop-same l = record {
  in_first : l.same ≤ length l.first;
  in_second : l.same ≤ length l.second;
  same : take l.same l.first ≡ take l.same l.second;
}

abbrev pub decreases-loop-same : goal.decreases-loop-same
decreases-loop-same l = length l.first - l.same
