use Rattle.std.proofs.Common.{◌≡◌, ℕ, ◌≤◌, ◌<◌, length}
use Rattle.std.specs.List.{slice_index}
use Rattle.sequence_grids.specs.Columns.{AreHeads, IsColumnOf}
use Rattle.sequence_grids.proofs.columns.Columns.new.Given as goal

abbrev pub invariant-loop-k : goal.invariant-loop-k
invariant-loop-k l = record {
  least : 1 ≤ l.k;
  heads : AreHeads l.fst.labels l.heads.items;
  long : length l.numbers.items ≡ l.k;
  numbers : (j : ℕ) → 1 ≤ j → j < l.k → IsColumnOf l.fst.labels l.heads.items j (slice_index l.numbers.items j);
}
