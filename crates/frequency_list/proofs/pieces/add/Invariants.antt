use Rattle.std.proofs.Common.{◌≡◌, ℕ, ◌+◌, ◌≤◌, ◌<◌}
use Rattle.std.specs.List.{slice_index}
use Rattle.frequency_list.proofs.pieces.add.Given as goal

abbrev pub invariant-loop-place : goal.invariant-loop-place
invariant-loop-place l = record {
  added : (k : ℕ) → k < l.place → slice_index l.sums k ≡ slice_index l.fn.sums k + slice_index l.more k;
  rest : (k : ℕ) → l.place ≤ k → slice_index l.sums k ≡ slice_index l.fn.sums k;
}
