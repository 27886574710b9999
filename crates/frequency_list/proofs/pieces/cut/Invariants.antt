use Rattle.std.proofs.Common.{◌≡◌, ◌+◌, ◌*◌, ◌≤◌, length}
use Rattle.flat_lists.specs.Cuts.{AreCut}
use Rattle.frequency_list.proofs.pieces.cut.Given as goal

abbrev pub invariant-loop : goal.invariant-loop
invariant-loop l = record {
  cut : AreCut l.ends.items (l.blocks * 256);
  within : l.blocks * 256 ≤ length l.db;
  count : length l.ends.items + 1 ≡ l.counter;
}
