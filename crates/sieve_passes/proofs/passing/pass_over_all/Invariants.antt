use Rattle.std.proofs.Common.{◌≡◌, length, take}
use Rattle.worker_shares.specs.Shares.{sequences_at}
use Rattle.sieve_passes.specs.Branches.{part_of}
use Rattle.sieve_passes.specs.Sums.{AddsAll}
use Rattle.sieve_passes.proofs.passing.pass_over_all.Given as goal

abbrev pub invariant-loop-index : goal.invariant-loop-index
invariant-loop-index g l = record {
  part : l.branches.part ≡ part_of l.job l.numbers;
  long : length l.buckets ≡ length l.fn.buckets;
  added : AddsAll l.job l.sieve (sequences_at l.job.sequences (take l.index l.numbers)) l.fn.buckets l.buckets;
}
