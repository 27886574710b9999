use Rattle.std.proofs.Common.{ℕ, ◌≤◌}
use Rattle.std.specs.List.{slice_index}
use Rattle.fst_compile.specs.Transducer.{Leads}
use Rattle.pivot_partition.proofs.RowLemmas.{IsRowSoFar}
use Rattle.pivot_partition.proofs.table.push_row.Given as goal

abbrev pub invariant-loop-state : goal.invariant-loop-state
invariant-loop-state l = IsRowSoFar (λ state p. (to : ℕ) × Leads l.fst state to × (slice_index l.entered to ≤ p)) l.fn.table.items l.table.items l.state
