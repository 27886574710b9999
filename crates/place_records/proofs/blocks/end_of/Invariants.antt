use Rattle.std.proofs.Common.{◌≤◌, ◌-◌, ◌≡◌, length}
use Rattle.place_records.proofs.blocks.end_of.Given as goal

abbrev pub invariant-loop-to : goal.invariant-loop-to
invariant-loop-to l = record {
  order : l.from ≤ l.to;
  most : l.to ≤ length l.job.sequences;
  first : l.to ≡ l.from → l.places ≡ 0;
  few : l.places ≤ 1000000;
}

abbrev pub decreases-loop-to : goal.decreases-loop-to
decreases-loop-to l = length l.job.sequences - l.to
