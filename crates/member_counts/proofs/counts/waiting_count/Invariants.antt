use Rattle.std.proofs.Common.{◌≡◌, take}
use Rattle.member_counts.specs.Counts.{sets_with}
use Rattle.member_counts.proofs.counts.waiting_count.Given as goal

abbrev pub invariant-loop-index : goal.invariant-loop-index
invariant-loop-index g l = l.count ≡ sets_with (take l.index l.sets) l.member
