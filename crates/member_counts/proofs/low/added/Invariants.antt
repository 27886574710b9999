use Rattle.std.proofs.Common.{◌≡◌, ℕ, ◌*◌, ◌<◌, take}
use Rattle.member_counts.specs.Digits.{low_count}
use Rattle.member_counts.specs.Counts.{sets_with}
use Rattle.member_counts.proofs.low.added.Given as goal

abbrev pub invariant-loop-index : goal.invariant-loop-index
invariant-loop-index g l = (q : ℕ) → q < 64 * g.row.W → low_count l.low q ≡ sets_with (take l.index l.sets) q
