use Rattle.std.proofs.Common.{◌≡◌, ◌-◌, ◌≤◌, length, drop}
use Rattle.pattern_counts.specs.Hashes.{mixed_all}
use Rattle.pattern_counts.proofs.hashes.hash_of.Given as goal

abbrev pub invariant-loop-at : goal.invariant-loop-at
invariant-loop-at l = record {
  within : l.at ≤ length l.list;
  so_far : mixed_all l.hash (drop l.at l.list) ≡ mixed_all 0x9e37_79b9_7f4a_7c15 l.list;
}

abbrev pub decreases-loop-at : goal.decreases-loop-at
decreases-loop-at l = l.len - l.at
