use Rattle.std.proofs.Common.{◌≡◌, length, map, take}
use Rattle.stand_sums.specs.Kept.{empty_shelf, ArePlaced}
use Rattle.stand_sums.proofs.filing.push_shelves.Given as goal

abbrev pub invariant-loop-wanted : goal.invariant-loop-wanted
invariant-loop-wanted l = record {
  room : length l.places.items ≡ length l.initial.places.items;
  placed : ArePlaced l.places.items l.shelves.items;
  shelves : l.shelves.items ≡ map empty_shelf (take l.wanted-index l.next);
}
