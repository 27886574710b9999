use Rattle.std.proofs.Common.{◌≡◌, take}
use Rattle.worker_shares.specs.Shares.{sequences_at}
use Rattle.sieve_passes.specs.Branches.{part_of}
use Rattle.counting_passes.specs.Counts.{AreSumsOf}
use Rattle.counting_passes.proofs.share.count_all.Given as goal

abbrev pub invariant-loop-index : goal.invariant-loop-index
invariant-loop-index g l = record {
  part : l.branches.part ≡ part_of l.job l.numbers;
  sums : AreSumsOf l.job l.sieve (sequences_at l.job.sequences (take l.index l.numbers)) l.counts;
}
