use Rattle.std.proofs.Common.{◌≡◌, map, take}
use Rattle.walk_memo.specs.Moves.{move_sets}
use Rattle.place_records.specs.Twins.{twin_sets, move_in}
use Rattle.place_records.proofs.moves.moves_of.Given as goal

abbrev pub invariant-loop-twin : goal.invariant-loop-twin
invariant-loop-twin g l =
    map (move_sets {W = g.row.W}) l.moves.items ≡ map (move_in l.goes) (map (twin_sets {W = g.row.W}) (take l.twin-index l.twins))
