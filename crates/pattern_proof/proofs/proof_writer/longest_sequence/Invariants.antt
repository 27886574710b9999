use Rattle.std.proofs.Common.{ℕ, ◌≤◌, ◌<◌, length}
use Rattle.mine_model.specs.Database.{sequence_at}
use Rattle.mine_model.specs.Limits.{most_length}
use Rattle.pattern_proof.proofs.proof_writer.longest_sequence.Given as goal

abbrev pub invariant-loop-seq : goal.invariant-loop-seq
invariant-loop-seq l = record {
  most : l.most ≤ most_length;
  longest : (place : ℕ) → place < l.seq → length (sequence_at l.db place).items ≤ l.most;
}
