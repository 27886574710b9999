use Rattle.std.proofs.Common.{◌≡◌, ℕ, ◌<◌}
use Rattle.sequence_grids.specs.Kinds.{row_at}
use Rattle.sequence_grids.proofs.kinds.same_outputs.Given as goal

abbrev pub invariant-loop-column : goal.invariant-loop-column
invariant-loop-column l = (j : ℕ) → j < l.column → row_at l.ends l.ranks l.other j ≡ row_at l.ends l.ranks l.one j
