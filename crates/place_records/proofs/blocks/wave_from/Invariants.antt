use Rattle.std.proofs.Common.{◌≤◌, ◌<◌, ◌-◌, length}
use Rattle.place_records.specs.Spans.{AreSpans}
use Rattle.place_records.proofs.blocks.wave_from.Given as goal

abbrev pub invariant-loop-at : goal.invariant-loop-at
invariant-loop-at l = record {
  spans : AreSpans l.from l.spans.items l.at;
  most : l.at ≤ length l.job.sequences;
  order : l.from ≤ l.at;
  further : 0 < length l.spans.items → l.from < l.at;
}

abbrev pub decreases-loop-at : goal.decreases-loop-at
decreases-loop-at l = length l.job.sequences - l.at
