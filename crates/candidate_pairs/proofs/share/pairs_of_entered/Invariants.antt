use Rattle.std.proofs.Common.{◌≡◌, take}
use Rattle.mine_model.specs.Counted.{HasPairs, IsTold}
use Rattle.mining_job.specs.Problems.{data_of}
use Rattle.worker_shares.specs.Shares.{sequences_at}
use Rattle.candidate_pairs.proofs.share.pairs_of_entered.Given as goal

-- what is told of the sequences so far
abbrev pub invariant-loop-index : goal.invariant-loop-index
invariant-loop-index l = record {
  part : l.candidates.part ≡ l.fn.candidates.part;
  told : IsTold (HasPairs (data_of l.job) (sequences_at l.job.sequences (take l.index l.fn.candidates.part.sequences))) l.sum;
}
