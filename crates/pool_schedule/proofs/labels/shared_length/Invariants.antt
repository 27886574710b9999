use Rattle.std.proofs.Common.{◌≡◌, take}
use Rattle.pool_schedule.proofs.labels.shared_length.Given as goal

abbrev pub invariant-loop-shared : goal.invariant-loop-shared
invariant-loop-shared l = take l.shared l.first ≡ take l.shared l.second
