use Rattle.std.proofs.Common.{◌-◌, ◌≤◌, length}
use Rattle.level_ahead.proofs.ahead.make_room.Given as goal

abbrev pub invariant-sets : goal.invariant-sets
invariant-sets l = 0 ≤ length l.sets.items

abbrev pub decreases-sets : goal.decreases-sets
decreases-sets l = 256 - length l.sets.items

abbrev pub invariant-counts : goal.invariant-counts
invariant-counts l = 256 ≤ length l.sets.items

abbrev pub decreases-counts : goal.decreases-counts
decreases-counts l = 256 - length l.counts.items
