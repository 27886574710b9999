use mathlib.Core.List.{reverse}
use Rattle.std.proofs.Common.{◌≡◌, ◌<◌, [], ◌++◌, length, get_or}
use Rattle.prefix_counts.proofs.PrefixCounts.read.Given as goal

abbrev pub invariant-loop-here : goal.invariant-loop-here
invariant-loop-here l = record {
  within : l.here < length l.self.lists;
  list : get_or l.self.lists l.here [] ++ reverse l.list.items ≡ get_or l.self.lists l.number [];
}

abbrev pub decreases-loop-here : goal.decreases-loop-here
decreases-loop-here l = l.here
