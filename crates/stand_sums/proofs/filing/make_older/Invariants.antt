use Rattle.std.proofs.Common.{◌≡◌, ◌++◌, map, take, drop}
use Rattle.stand_sums.specs.Kept.{older}
use Rattle.stand_sums.proofs.filing.make_older.Given as goal

abbrev pub invariant-loop-index : goal.invariant-loop-index
invariant-loop-index l = l.shelves.items ≡ map older (take l.index l.initial.shelves.items) ++ drop l.index l.initial.shelves.items
