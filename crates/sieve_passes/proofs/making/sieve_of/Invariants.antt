use Rattle.std.proofs.Common.{◌≡◌, ◌+◌, ℕ, length}
use Rattle.sieve_passes.specs.Shares.{AreShares}
use Rattle.sieve_passes.specs.Sums.{AreLevelsOf}
use Rattle.sieve_passes.proofs.making.sieve_of.Given as goal

abbrev pub invariant-loop : goal.invariant-loop
invariant-loop g l = record {
  levels : AreLevelsOf l.job l.sieve;
  depth : length l.sieve ≡ l.counter;
  shares : (buckets : ℕ) → AreShares l.job l.workers buckets l.fn.shares.items → AreShares l.job l.workers buckets l.shares.items;
}
