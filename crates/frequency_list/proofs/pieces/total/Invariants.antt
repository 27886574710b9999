use Rattle.std.proofs.Common.{◌≡◌, ℕ, length, take}
use Rattle.std.specs.List.{slice_index, sum_by}
use Rattle.frequency_list.proofs.pieces.total.Given as goal

abbrev pub invariant-loop-part : goal.invariant-loop-part
invariant-loop-part l = record {
  sums : (k : ℕ) → slice_index l.sums.items k ≡ sum_by (λ part. slice_index part.items k) (take l.part-index l.parts);
  whole : length l.sums.items ≡ l.items;
}
