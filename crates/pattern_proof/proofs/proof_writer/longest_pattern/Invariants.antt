use Rattle.std.proofs.Common.{ℕ, ◌≤◌, ◌<◌, length, get_or}
use Rattle.mine_model.specs.declared.row.Row.{Row}
use Rattle.pattern_proof.proofs.proof_writer.longest_pattern.Given as goal

abbrev pub invariant-loop-row : goal.invariant-loop-row
invariant-loop-row l = (k : ℕ) (d : Row) → k < l.row-index → k < length l.rows → length (get_or l.rows k d).pattern ≤ l.most
