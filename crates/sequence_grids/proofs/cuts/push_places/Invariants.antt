use Rattle.std.proofs.Common.{◌+◌, ◌≤◌, length, drop, vec_len, vec_capacity}
use Rattle.sequence_grids.specs.Tables.{Grows}
use Rattle.sequence_grids.specs.Kinds.{KindsGrow, Extends}
use Rattle.sequence_grids.specs.Places.{HasTriple, IsTableOf, AreFilled}
use Rattle.sequence_grids.specs.Cuts.{AreCuts}
use Rattle.sequence_grids.proofs.cuts.push_places.Given as goal

abbrev pub invariant-loop-position : goal.invariant-loop-position
invariant-loop-position l = record {
  table : IsTableOf l.job l.tables;
  cuts : AreCuts l.job l.bound l.tables.classes l.kinds l.all l.cuts;
  tables_grow : Grows l.fn.tables l.tables;
  kinds_grow : KindsGrow l.fn.kinds l.kinds;
  room : vec_len l.places + l.position ≤ vec_capacity l.places;
  places_grow : Extends l.fn.places.items l.places.items;
  filled : AreFilled l.job l.bound l.tables l.kinds l.places.items (length l.fn.places.items) l.items l.position;
  triple : HasTriple l.job l.bound l.tables.triples (drop l.position l.items) l.triple;
}

abbrev pub decreases-loop-position : goal.decreases-loop-position
decreases-loop-position l = l.position
