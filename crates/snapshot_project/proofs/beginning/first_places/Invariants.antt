use Rattle.std.proofs.Common.{◌≡◌, ◌+◌, None, length, take, sum_by}
use Rattle.mining_job.specs.Problems.{items_of}
use Rattle.snapshot_project.proofs.FirstLemmas.{AreFirsts}
use Rattle.snapshot_project.proofs.beginning.first_places.Given as goal

-- the places of the sequences so far are found, and the next place is where the next one begins
abbrev pub invariant-loop-number : goal.invariant-loop-number
invariant-loop-number l = record {
  firsts : AreFirsts (record { problem = l.job; bound = record { top = 0; need = None }; sequences = l.sequences }) l.number-index l.starts.items;
  place : l.place ≡ sum_by (λ i. length (items_of l.job i) + 1) (take l.number-index l.sequences);
}
