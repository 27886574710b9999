use Rattle.std.proofs.Common.{◌≡◌}
use Rattle.worker_shares.specs.Shares.{numbers_of}
use Rattle.worker_shares.proofs.numbers.numbers_of.Given as goal

abbrev pub invariant-loop-number : goal.invariant-loop-number
invariant-loop-number l = l.numbers.items ≡ numbers_of l.workers l.worker l.number
