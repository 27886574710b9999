use Rattle.std.proofs.Common.{◌≡◌, ◌⊎◌, ℕ, Some, length, drop}
use Rattle.std.specs.List.{Contains, slice_get}
use Rattle.stand_sums.specs.declared.sum.Sum.{Sum}
use Rattle.stand_sums.specs.Kept.{nothing}
use Rattle.stand_sums.proofs.counting.forget.Given as goal

abbrev pub invariant-loop-rank : goal.invariant-loop-rank
invariant-loop-rank l = record {
  room : length l.sums.items ≡ length l.initial.sums.items;
  rest : (rank : ℕ) (sum : Sum) → slice_get l.sums.items rank ≡ Some sum → (sum ≡ nothing) ⊎ Contains (drop l.rank-index l.touched) rank;
}
