use Rattle.std.proofs.Common.{◌≡◌, ℕ, Some, length, take}
use Rattle.std.specs.List.{slice_get}
use Rattle.stand_sums.specs.declared.sum.Sum.{Sum}
use Rattle.stand_sums.specs.Kept.{behind_visits, AreSums}
use Rattle.stand_sums.proofs.counting.count_sequence.Given as goal

abbrev pub invariant-loop-visit : goal.invariant-loop-visit
invariant-loop-visit g l = record {
  room : length l.sums ≡ length l.initial.sums;
  sums : AreSums l.counted.number l.sums l.touched.items;
  counted : (rank : ℕ) (before : Sum) → slice_get l.initial.sums rank ≡ Some before
      → slice_get l.sums rank ≡ Some (behind_visits (g.T.Outputs.ranks l.table) l.aim l.counted rank before (take l.visit-index l.visits));
}
