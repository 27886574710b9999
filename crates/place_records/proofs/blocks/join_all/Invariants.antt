use Rattle.std.proofs.Common.{◌≤◌, ◌-◌, map, length}
use Rattle.place_records.specs.Twins.{twin_sets}
use Rattle.place_records.specs.Blocks.{IsBlock}
use Rattle.place_records.proofs.blocks.join_all.Given as goal

abbrev pub invariant-loop-at : goal.invariant-loop-at
invariant-loop-at g l = record {
  most : l.at ≤ length l.job.sequences;
  block : IsBlock l.job l.bound l.alphabet.kinds 0 l.at (map (twin_sets {W = g.row.W}) l.joined.twins.keys) l.joined.sequences.items l.joined.places;
}

abbrev pub decreases-loop-at : goal.decreases-loop-at
decreases-loop-at g l = length l.job.sequences - l.at
