use Rattle.std.proofs.Common.{◌≡◌}
use Rattle.mining_job.specs.declared.bound.Bound.{Bound}
use Rattle.place_records.specs.Records.{start_of}
use Rattle.sequence_candidates.specs.Terrains.{AreStartsTo}
use Rattle.sequence_candidates.proofs.starts.starts_of.Given as goal

-- the starts of the sequences so far are found, and the next place is where the next one begins
abbrev pub invariant-loop-number : goal.invariant-loop-number
invariant-loop-number l = record {
  starts : (bound : Bound) → AreStartsTo (record { problem = l.job; bound = bound; sequences = l.sequences }) l.number-index l.starts.items;
  place : (bound : Bound) → l.place ≡ start_of (record { problem = l.job; bound = bound; sequences = l.sequences }) l.number-index;
}
