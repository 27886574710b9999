use Rattle.std.proofs.Common.{◌≡◌, vec_capacity, ◌≤◌, ◌+◌, ◌*◌, length}
use Rattle.pattern_proof.specs.Finding.{question_of, silents_of, EndFrom}
use Rattle.pattern_proof.proofs.search.fill.Given as goal

abbrev pub invariant-loop-left : goal.invariant-loop-left
invariant-loop-left l = record {
  within : l.left ≤ (length l.search.pattern.now + 1) * (silents_of (question_of l.search) + 1);
  set : EndFrom (question_of l.search) (l.left * (length l.search.fst.now.labels + 1)) l.words.items;
  long : length l.words.items ≡ length l.initial.words.items;
  room : vec_capacity l.words ≡ vec_capacity l.initial.words;
}

abbrev pub decreases-loop-left : goal.decreases-loop-left
decreases-loop-left l = l.left
