use Rattle.std.proofs.Common.{◌≡◌, ℕ, Some, length, take}
use Rattle.std.specs.List.{slice_get}
use Rattle.stand_sums.specs.declared.sum.Sum.{Sum}
use Rattle.stand_sums.specs.Kept.{AreSums}
use Rattle.stand_sums.specs.Kept.{behind_ranks}
use Rattle.stand_sums.proofs.counting.count_ranks.Given as goal

abbrev pub invariant-loop-rank : goal.invariant-loop-rank
invariant-loop-rank l = record {
  room : length l.sums ≡ length l.initial.sums;
  sums : AreSums l.counted.number l.sums l.touched.items;
  counted : (rank : ℕ) (before : Sum) → slice_get l.initial.sums rank ≡ Some before
      → slice_get l.sums rank ≡ Some (behind_ranks (λ _. l.opening) (λ _. l.ending) l.counted rank (take l.rank-index l.ranks) before);
}
