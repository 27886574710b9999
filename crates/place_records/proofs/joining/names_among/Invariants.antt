use Rattle.std.proofs.Common.{map, take}
use Rattle.sequence_grids.specs.Kinds.{Extends}
use Rattle.place_records.specs.Twins.{twin_sets}
use Rattle.place_records.specs.Blocks.{AreNames}
use Rattle.place_records.proofs.joining.names_among.Given as goal

abbrev pub invariant-loop-twin : goal.invariant-loop-twin
invariant-loop-twin g l = record {
  grow : Extends (map (twin_sets {W = g.row.W}) l.fn.all.keys) (map (twin_sets {W = g.row.W}) l.all.keys);
  names : AreNames (map (twin_sets {W = g.row.W}) (take l.twin-index l.twins)) (map (twin_sets {W = g.row.W}) l.all.keys) l.names.items;
}
