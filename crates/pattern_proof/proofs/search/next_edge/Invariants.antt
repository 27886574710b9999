use Rattle.std.proofs.Common.{ℕ, ◌<◌, length, get_or}
use Rattle.fst_compile.specs.declared.edge.Edge.{Edge}
use Rattle.pattern_proof.specs.Finding.{question_of, Passes}
use Rattle.pattern_proof.proofs.search.next_edge.Given as goal

abbrev pub invariant-loop-edge : goal.invariant-loop-edge
invariant-loop-edge l =
    (k : ℕ) (d : Edge) → k < l.edge-index → k < length l.edge-items → Passes (question_of l.search) l.silent l.written (get_or l.edge-items k d) → ⊥
