use Rattle.state_bits.specs.Members.{Has}
use Rattle.pivot_partition.proofs.RowLemmas.{IsRowSoFar}
use Rattle.pivot_partition.proofs.table.push_last.Given as goal

abbrev pub invariant-loop-state : goal.invariant-loop-state
invariant-loop-state l = IsRowSoFar (λ state p. Has l.fst.finals state) l.fn.table.items l.table.items l.state
