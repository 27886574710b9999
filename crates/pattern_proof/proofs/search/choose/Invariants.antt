use Rattle.std.proofs.Common.{◌≡◌, ℕ, ◌≤◌, ◌+◌, ◌-◌, List, ◌++◌, length, drop, vec_len, vec_capacity}
use Rattle.pattern_proof.specs.Reading.{numbers_of}
use Rattle.pattern_proof.specs.Steps.{IsRun}
use Rattle.pattern_proof.specs.Finding.{question_of, IsPlace, CanEnd}
use Rattle.pattern_proof.proofs.search.choose.Given as goal

abbrev pub invariant-loop-silent : goal.invariant-loop-silent
invariant-loop-silent l = record {
  place : IsPlace (question_of l.search) l.silent l.written;
  state : l.state.0 ≤ length l.search.fst.now.labels;
  long : vec_len l.states ≡ l.silent + l.written;
  deep : vec_capacity l.states ≡ vec_capacity l.initial.states;
  ends : CanEnd (question_of l.search) l.silent l.written l.state.0;
  adds : (states : List ℕ) → IsRun l.search.hierarchy.now.links l.search.fst.now l.state.0 states (drop (l.silent + l.written) l.search.items.now) (drop l.written l.search.pattern.now)
      → IsRun l.search.hierarchy.now.links l.search.fst.now 0 (numbers_of l.states.items ++ states) l.search.items.now l.search.pattern.now;
}

abbrev pub decreases-loop-silent : goal.decreases-loop-silent
decreases-loop-silent l = length l.search.items.now - (l.silent + l.written)
