use Rattle.std.proofs.Common.{◌≡◌, vec_capacity, ◌≤◌, ◌+◌, length}
use Rattle.pattern_proof.specs.Finding.{question_of, bit_of, EndFrom}
use Rattle.pattern_proof.proofs.search.fill_place.Given as goal

abbrev pub invariant-loop-state : goal.invariant-loop-state
invariant-loop-state l = record {
  within : l.state ≤ length l.search.fst.now.labels + 1;
  set : EndFrom (question_of l.search) (bit_of (question_of l.search) l.silent l.written l.state) l.words.items;
  long : length l.words.items ≡ length l.initial.words.items;
  room : vec_capacity l.words ≡ vec_capacity l.initial.words;
}

abbrev pub decreases-loop-state : goal.decreases-loop-state
decreases-loop-state l = l.state
