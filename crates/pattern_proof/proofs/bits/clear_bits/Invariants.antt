use Rattle.std.proofs.Common.{◌≡◌, replicate, vec_capacity}
use Rattle.pattern_proof.proofs.bits.clear_bits.Given as goal

abbrev pub invariant-loop : goal.invariant-loop
invariant-loop l = record {
  zeros : l.words.items ≡ replicate l.counter 0;
  room : vec_capacity l.words ≡ vec_capacity l.initial.words;
}
