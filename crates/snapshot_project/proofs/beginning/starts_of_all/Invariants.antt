use Rattle.std.proofs.Common.{◌≡◌, ◌+◌, false, length, take, sum_by}
use Rattle.std.specs.List.{AllByRecursion}
use Rattle.mining_job.specs.declared.bound.Bound.{Bound}
use Rattle.mining_job.specs.Problems.{items_of}
use Rattle.sequence_grids.specs.Grids.{Completes}
use Rattle.snapshot_project.specs.Terrains.{AreStarts}
use Rattle.snapshot_project.proofs.beginning.starts_of_all.Given as goal

-- the starts of the sequences so far are found, and the next place is where the next one begins
abbrev pub invariant-loop-number : goal.invariant-loop-number
invariant-loop-number l = record {
  starts : (bound : Bound) → AllByRecursion (λ i. Completes l.job bound (items_of l.job i) 0 false) l.sequences
      → AreStarts (record { problem = l.job; bound = bound; sequences = l.sequences }) l.number-index l.starts.items;
  place : l.place ≡ sum_by (λ i. length (items_of l.job i) + 1) (take l.number-index l.sequences);
}
