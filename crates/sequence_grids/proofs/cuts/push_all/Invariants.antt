use Rattle.std.proofs.Common.{take}
use Rattle.sequence_grids.specs.Places.{AreKept}
use Rattle.sequence_grids.specs.Cuts.{AreCuts}
use Rattle.sequence_grids.proofs.cuts.push_all.Given as goal

abbrev pub invariant-loop-seq : goal.invariant-loop-seq
invariant-loop-seq l = record {
  kept : AreKept l.job l.bound l.tables l.kinds l.places.items l.ends.items (take l.seq-index l.sequences);
  cuts : AreCuts l.job l.bound l.tables.classes l.kinds l.all l.cuts;
}
