use Rattle.std.proofs.Common.{◌+◌, ◌∷◌, Bool, List}
use Rattle.worker_shares.proofs.ShareLemmas.{shares_to}
use Rattle.counting_passes.specs.Counts.{AreSumsOf, HaveAllCounted}
use Rattle.counting_passes.proofs.counting.join_others.Given as goal

-- the first workers were joined
abbrev pub invariant-loop-share : goal.invariant-loop-share
invariant-loop-share l = (levels : List (List Bool)) → HaveAllCounted l.job levels l.workers (l.fn.counts ∷ l.others)
    → AreSumsOf l.job levels (shares_to l.job.sequences l.workers (l.share-index + 1)) l.counts
