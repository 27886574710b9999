use Rattle.std.proofs.Common.{◌≡◌, drop}
use Rattle.member_counts.specs.Counts.{count_in}
use Rattle.member_counts.proofs.counts.digits_count.Given as goal

abbrev pub invariant-loop-index : goal.invariant-loop-index
invariant-loop-index g l = l.count ≡ count_in (drop l.index l.digits) l.member
